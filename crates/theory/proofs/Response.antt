-- This file proves the response bound.
use Prim.Native.Nat.{ℕ, zero, suc, ◌+◌, ◌*◌, ◌/◌, ◌%◌, ◌≤◌, ◌<◌}
use mathlib.Core.Path.{◌≡◌, refl, ap, sym, ◌∙◌}
use mathlib.Core.Logic.{◌≢◌}
use native.Mathlib.Omega.{arith}
use native.Mathlib.Numerals.{add-one}
use native.Mathlib.Nat.{mul-le-mul_right, div-add-mod', mul-add-mod_self_right}
use Rattle.base.specs.Sum.{sum_to, plus_at}
use Rattle.base.proofs.Split.{by_lt, by_eq}
use Rattle.base.proofs.SumLaws.{sum_to_mono, sum_to_zero, plus_same, plus_other, sum_plus}
use Rattle.theory.specs.Round.{ceil}
use Rattle.theory.specs.Rules.{Rules, ready, demand}
use Rattle.theory.proofs.RoundLaws.{ceil_past, slots, slots_zero, slots_slot, slots_other, slots_most}
use Rattle.theory.proofs.System.{Job, View, Sound, left, Allowed, Idle, Released, Slotted, Ran, Move, Fresh, Reach, resting, working, slotted, ran, tailed, released, ticked, start, move}
use Rattle.theory.proofs.ReadyLaws.{ready_up, ready_near, ready_mono, ready_mod, ready_inside}
use Rattle.theory.proofs.Reachable.{Fine, worked_same, left_worked, fine_start, fine_move, reach_fine}

-- This is known of task j, where the window starts at c * H, x ticks have passed since, and j ran u of them: it has a
-- job that has not run since, or it has none; n jobs of it have run since.
pub data Track (R : Rules) (c x : ℕ) (v : View) (u j : ℕ) : Type 0 where
  waits : (a l n : ℕ) → v.job j ≡ working a l → u ≤ n * R.C j → n * R.T j < R.T j + ready R.H x
      → c * R.H ≤ ready R.H a → c * R.H + n * R.T j < a + R.H → Track R c x v u j
  runs : (n : ℕ) → u + left (v.job j) ≤ n * R.C j → n * R.T j < R.T j + ready R.H x
      → ((a l : ℕ) → v.job j ≡ working a l → c * R.H ≤ ready R.H a)
      → ((a : ℕ) → v.clock ≤ a → Allowed (R.T j) (v.last j) a → c * R.H + n * R.T j < a + R.H) → Track R c x v u j

-- A move that leaves task j alone keeps what is known of it.
track_keep : (R : Rules) (c x x' : ℕ) (v v' : View) (u j : ℕ) → 1 ≤ R.H → x ≤ x' → v.clock ≤ v'.clock
    → v'.job j ≡ v.job j → v'.last j ≡ v.last j → Track R c x v u j → Track R c x' v' u j
track_keep R c x x' v v' u j h lx lc ej el (waits a l n ea p q r s) =
    waits a l n (ej ∙ ea) p (omega (arith, ready_mono R.H x x' h lx)) r s
track_keep R c x x' v v' u j h lx lc ej el (runs n p q r s) =
    runs n (omega (arith, ap left ej)) (omega (arith, ready_mono R.H x x' h lx))
    (λ a l e. r a l (sym ej ∙ e))
    (λ a la al. s a (omega arith) (rw el at al))

-- A release of task j keeps what is known of it.
track_release : (R : Rules) (c x : ℕ) (v v' : View) (u j d : ℕ) → 1 ≤ R.H → c * R.H ≤ v.clock
    → Released R j d v v' → Track R c x v u j → Track R c x v' u j
track_release R c x v v' u j d h lb r (waits a l n ea p q s z) =
    let z : ◌≡◌ {A = ℕ} 0 1 = cc r.free in absurd (omega arith)
track_release R c x v v' u j d h lb r (runs n p q s z) =
    waits v.clock d n r.job_new (omega arith) q (omega (arith, ready_up R.H v.clock h))
    (z v.clock (omega arith) r.spaced)

-- A run of task j keeps what is known of it, with one more tick run.
track_run : (R : Rules) (c x : ℕ) (v v' : View) (u j a l : ℕ) → 1 ≤ R.H → v.clock ≡ c * R.H + x → Fine R v
    → Ran R j a l v v' → Track R c x v u j → Track R c (suc x) v' (suc u) j
unfolding Fine Allowed left
track_run R c x v v' u j a l h now F r (waits a' l' n ea p q s z) =
    let f = F j a (suc l) r.was in
    let ea : a' ≡ a = cc r.was in
    runs (suc n) (omega (arith, ap left r.job_new, left_worked a l, f.full))
    (omega (arith, ready_inside R.H c (suc x) a h (omega (arith, r.may)), ready_up R.H a h))
    (λ b m e. rw (worked_same a l b m (sym r.job_new ∙ e)).0 at (rw ea at s))
    (λ b lb al.
    let al' : a + R.T j ≤ b = rw (r.lasts_same j ∙ f.last_is) at al in
    omega arith)
track_run R c x v v' u j a l h now F r (runs n p q s z) =
    runs n (omega (arith, ap left r.job_new, left_worked a l, ap left r.was))
    (omega (arith, ready_mono R.H x (suc x) h (omega arith)))
    (λ b m e. rw (worked_same a l b m (sym r.job_new ∙ e)).0 at (s a (suc l) r.was))
    (λ b lb al. z b (omega (arith, r.clock_next)) (rw (r.lasts_same j) at al))

-- The work of n jobs fits the jobs that the period t allows in X ticks, where n - 1 periods fit into them.
jobs_most : (c t X n u : ℕ) → 1 ≤ t → u ≤ n * c → n * t < t + X → u ≤ c * ceil X t
jobs_most c t X zero u p q r = omega arith
jobs_most c t X (suc n) u p q r = omega (arith, mul-le-mul_right c (ceil_past X t n p (omega arith)))

-- Task j's run ticks fit the jobs that its period allows.
track_most : (R : Rules) (c x : ℕ) (v : View) (u j : ℕ) → Sound R → Track R c x v u j
    → u ≤ R.C j * ceil (ceil x R.H * R.H) (R.T j)
unfolding ready
track_most R c x v u j ok (waits a l n ea p q r s) = jobs_most (R.C j) (R.T j) (ceil x R.H * R.H) n u (ok.period j) p q
track_most R c x v u j ok (runs n p q r s) = jobs_most (R.C j) (R.T j) (ceil x R.H * R.H) n u (ok.period j) (omega arith) q

-- The window is at work: each of the x ticks since its start c * H was a slot tick or run by a task up to i, and task
-- i's job is not done.
pub record Core (R : Rules) (i : ℕ) (v : View) (c x : ℕ) (U : ℕ → ℕ) : Type 0 where
  pub now : v.clock ≡ c * R.H + x
  pub all : x ≡ slots R.H R.S x + sum_to (suc i) U
  pub tracks : (j : ℕ) → j ≤ i → Track R c x v (U j) j
  pub top : U i + left (v.job i) ≤ R.C i
  pub top_rest : v.job i ≡ resting → U i ≡ 0

-- A window is at work that is still shorter than w.
pub record Busy (R : Rules) (i w : ℕ) (v : View) : Type 0 where
  pub c : ℕ
  pub x : ℕ
  pub U : ℕ → ℕ
  pub core : Core R i v c x U
  pub short : x < w

-- No job up to task i may run before now.
unfoldable pub Calm : Rules → ℕ → View → Type 0
Calm R i v = (j : ℕ) → j ≤ i → (a l : ℕ) → v.job j ≡ working a l → v.clock ≤ ready R.H a

-- The window of task i is at work, or no job up to it may run before the next boundary.
pub data Inv (R : Rules) (i w : ℕ) (v : View) : Type 0 where
  busy : Busy R i w v → Inv R i w v
  quiet : v.clock % R.H ≢ 0 → Calm R i v → Inv R i w v

-- Task i has not had all its work.
top_below : (R : Rules) (i : ℕ) (v : View) (u : ℕ) → Sound R → Fine R v → u + left (v.job i) ≤ R.C i
    → (v.job i ≡ resting → u ≡ 0) → u < R.C i
unfolding Fine left
top_below R i v u ok F t z = go (v.job i) refl
  where
    go : (J : Job) → v.job i ≡ J → u < R.C i
    go resting e = omega (arith, z e, ok.work i)
    go (working a l) e = omega (arith, (F i a l e).some, ap left e)

-- The window at work is still short of its demand.
core_below : (R : Rules) (i : ℕ) (v : View) (c x : ℕ) (U : ℕ → ℕ) → Sound R → Fine R v → Core R i v c x U → x < demand R i x
unfolding demand sum_to
core_below R i v c x U ok F k =
    omega (
      arith,
      k.all,
      slots_most R.H R.S x (omega (arith, ok.room)),
      top_below R i v (U i) ok F k.top k.top_rest,
      sum_to_mono i U (λ j. R.C j * ceil (ceil x R.H * R.H) (R.T j))
          (λ j l. track_most R c x v (U j) j ok (k.tracks j (omega arith))),
    )

-- A window at work does not reach a w that its demand fits.
core_busy : (R : Rules) (i w : ℕ) (v : View) (c x : ℕ) (U : ℕ → ℕ) → Sound R → demand R i w ≤ w → Fine R v → x ≤ w
    → Core R i v c x U → Inv R i w v
core_busy R i w v c x U ok fits F l k =
    busy (record {
      c = c;
      x = x;
      U = U;
      core = k;
      short = by_eq x w (x < w)
          (λ e.
          let d : x < demand R i x = core_below R i v c x U ok F k in
          let d' : w < demand R i w = rw e at d in
          omega arith)
          (λ n. omega arith);
    })

-- Where no job up to i may run before now, a window starts, or has not yet.
calm_inv : (R : Rules) (i w : ℕ) (v : View) → Sound R → 1 ≤ w → Fine R v → Calm R i v → Inv R i w v
unfolding Fine Calm left
calm_inv R i w v ok w1 F calm =
    by_eq (v.clock % R.H) 0 (Inv R i w v)
    (λ e.
    let now : v.clock ≡ v.clock / R.H * R.H + 0 = omega (arith, div-add-mod' v.clock R.H) in
    busy (record {
      c = v.clock / R.H;
      x = 0;
      U = λ j. 0;
      core = record {
        now = now;
        all = omega (arith, slots_zero R.H R.S h1, sum_to_zero (suc i));
        tracks = λ j l. track j l now (v.job j) refl;
        top = top (v.job i) refl;
        top_rest = λ q. refl;
      };
      short = w1;
    }))
    (λ n. quiet n calm)
  where
    h1 : 1 ≤ R.H
    h1 = omega (arith, ok.room)

    top : (J : Job) → v.job i ≡ J → 0 + left (v.job i) ≤ R.C i
    top resting e = omega (arith, ap left e)
    top (working a l) e = omega (arith, ap left e, (F i a l e).full)

    track : (j : ℕ) → j ≤ i → v.clock ≡ v.clock / R.H * R.H + 0 → (J : Job) → v.job j ≡ J → Track R (v.clock / R.H) 0 v 0 j
    track j l now resting e =
        runs 0 (omega (arith, ap left e)) (omega (arith, ok.period j))
        (λ a m q. let z : ◌≡◌ {A = ℕ} 0 1 = cc in absurd (omega arith))
        (λ a la al. omega arith)
    track j l now (working a m) e =
        waits a m 0 e (omega arith) (omega (arith, ok.period j)) (omega (arith, calm j l a m e))
        (omega (arith, calm j l a m e, ready_near R.H a h1))

-- After a tick in which no job up to i may run, and none changes, none may run before now.
idle_calm : (R : Rules) (i : ℕ) (v v' : View) → ((k : ℕ) → k ≤ i → Idle R v k) → ((k : ℕ) → k ≤ i → v'.job k ≡ v.job k)
    → v'.clock ≡ suc v.clock → Calm R i v'
unfolding Calm Idle
idle_calm R i v v' idle same next k l a m e = omega (arith, idle k l a m (sym (same k l) ∙ e))

-- Off the boundary a job that may not run before now may not run now.
quiet_idle : (R : Rules) (i : ℕ) (v : View) → v.clock % R.H ≢ 0 → Calm R i v → (k : ℕ) → k ≤ i → Idle R v k
unfolding Calm Idle
quiet_idle R i v off calm k l a m e =
    by_eq v.clock (ready R.H a) (v.clock < ready R.H a)
    (λ q. absurd (off (rw q (ready_mod R.H a))))
    (λ n. omega (arith, calm k l a m e))

-- Every move from a view in which nothing up to i may run keeps the invariant.
quiet_move : (R : Rules) (i w : ℕ) (v v' : View) → Sound R → 1 ≤ w → Fine R v' → v.clock % R.H ≢ 0 → Calm R i v → Move R v v' → Inv R i w v'
unfolding Calm Idle
quiet_move R i w v v' ok w1 F off calm (released j d r) =
    calm_inv R i w v' ok w1 F (λ k l a m e. by_eq k j (v'.clock ≤ ready R.H a)
    (λ q.
    let ea : v.clock ≡ a = cc r.job_new in
    omega (arith, r.clock_same, ready_up R.H a (omega (arith, ok.room))))
    (λ n. omega (arith, r.clock_same, calm k l a m (sym (r.jobs_same k n) ∙ e))))
quiet_move R i w v v' ok w1 F off calm (ticked (slotted r)) =
    calm_inv R i w v' ok w1 F (idle_calm R i v v' (quiet_idle R i v off calm) (λ k l. r.jobs_same k) r.clock_next)
quiet_move R i w v v' ok w1 F off calm (ticked (tailed r)) =
    calm_inv R i w v' ok w1 F (idle_calm R i v v' (quiet_idle R i v off calm) (λ k l. r.jobs_same k) r.clock_next)
quiet_move R i w v v' ok w1 F off calm (ticked (ran j a l r)) =
    by_lt i j (Inv R i w v')
    (λ lt. calm_inv R i w v' ok w1 F (idle_calm R i v v' (quiet_idle R i v off calm) (λ k lk. r.jobs_same k (omega arith)) r.clock_next))
    (λ le. absurd (omega (arith, r.may, quiet_idle R i v off calm j le a (suc l) r.was)))

-- A release in a window at work keeps the invariant.
busy_release : (R : Rules) (i w : ℕ) (v v' : View) (j d : ℕ) → Sound R → (B : Busy R i w v) → Released R j d v v' → Inv R i w v'
unfolding left
busy_release R i w v v' j d ok B r =
    busy (record {
      c = B.c;
      x = B.x;
      U = B.U;
      short = B.short;
      core = record {
        now = r.clock_same ∙ B.core.now;
        all = B.core.all;
        tracks = λ k l. by_eq k j (Track R B.c B.x v' (B.U k) k)
            (λ e. rw e (track_release R B.c B.x v v' (B.U j) j d h1 (omega arith) r (rw e at (B.core.tracks k l))))
            (λ n. track_keep R B.c B.x B.x v v' (B.U k) k h1 (omega arith) (omega (arith, r.clock_same)) (r.jobs_same k n) (r.lasts_same k n) (B.core.tracks k l));
        top = by_eq i j (B.U i + left (v'.job i) ≤ R.C i)
            (λ e.
            let z : B.U i ≡ 0 = B.core.top_rest (rw e r.free) in
            let f : d ≤ R.C i = rw e r.full in
            let q : v'.job i ≡ working v.clock d = rw e r.job_new in
            omega (arith, ap left q))
            (λ n. omega (arith, ap left (r.jobs_same i n)));
        top_rest = λ q. by_eq i j (B.U i ≡ 0)
            (λ e. B.core.top_rest (rw e r.free))
            (λ n. B.core.top_rest (sym (r.jobs_same i n) ∙ q));
      };
    })
  where
    h1 : 1 ≤ R.H
    h1 = omega (arith, ok.room)

-- The remainder of the clock is that of the window's ticks.
core_mod : (R : Rules) (i : ℕ) (v : View) (c x : ℕ) (U : ℕ → ℕ) → Core R i v c x U → v.clock % R.H ≡ x % R.H
core_mod R i v c x U k = ap (λ (t : ℕ). t % R.H) k.now ∙ mul-add-mod_self_right c R.H x

-- A slot tick in a window at work keeps the invariant.
busy_slot : (R : Rules) (i w : ℕ) (v v' : View) → Sound R → demand R i w ≤ w → Fine R v' → (B : Busy R i w v) → Slotted R v v' → Inv R i w v'
busy_slot R i w v v' ok fits F B r =
    core_busy R i w v' B.c (suc B.x) B.U ok fits F B.short (record {
      now = omega (arith, r.clock_next, B.core.now);
      all = omega (
        arith,
        B.core.all,
        slots_slot R.H R.S B.x h1 ok.room (rw (core_mod R i v B.c B.x B.U B.core) at r.slot),
      );
      tracks = λ k l. track_keep R B.c B.x (suc B.x) v v' (B.U k) k h1 (omega arith) (omega (arith, r.clock_next))
          (r.jobs_same k) (r.lasts_same k) (B.core.tracks k l);
      top = omega (arith, B.core.top, ap left (r.jobs_same i));
      top_rest = λ q. B.core.top_rest (sym (r.jobs_same i) ∙ q);
    })
  where
    h1 : 1 ≤ R.H
    h1 = omega (arith, ok.room)

-- A run of a task up to i keeps the invariant where it leaves task i work to do, or was not its run.
busy_run : (R : Rules) (i w : ℕ) (v v' : View) (j a l : ℕ) → Sound R → demand R i w ≤ w → Fine R v → Fine R v' → (B : Busy R i w v)
    → Ran R j a l v v' → j ≤ i → (j ≡ i → 1 ≤ l) → Inv R i w v'
unfolding left
busy_run R i w v v' j a l ok fits F F' B r le more =
    core_busy R i w v' B.c (suc B.x) (plus_at j 1 B.U) ok fits F' B.short (record {
      now = omega (arith, r.clock_next, B.core.now);
      all = omega (
        arith,
        B.core.all,
        sum_plus (suc i) j 1 B.U (omega arith),
        slots_other R.H R.S B.x h1 ok.room (rw (core_mod R i v B.c B.x B.U B.core) at r.no_slot),
      );
      tracks = λ k lk. by_eq k j (Track R B.c (suc B.x) v' (plus_at j 1 B.U k) k)
          (λ e. rw e (rw (plus_same j 1 B.U, add-one)
          (track_run R B.c B.x v v' (B.U j) j a l h1 B.core.now F r (rw e at (B.core.tracks k lk)))))
          (λ n. rw (plus_other j 1 B.U k n)
          (track_keep R B.c B.x (suc B.x) v v' (B.U k) k h1 (omega arith) (omega (arith, r.clock_next))
          (r.jobs_same k n) (r.lasts_same k) (B.core.tracks k lk)));
      top = by_eq i j (plus_at j 1 B.U i + left (v'.job i) ≤ R.C i)
          (λ e.
          let q : left (v'.job i) ≡ l = rw e (ap left r.job_new ∙ left_worked a l) in
          let p : left (v.job i) ≡ suc l = rw e (ap left r.was) in
          let b : plus_at j 1 B.U i ≡ B.U i + 1 = rw e (plus_same j 1 B.U) in
          omega (arith, B.core.top))
          (λ n. omega (arith, B.core.top, plus_other j 1 B.U i n, ap left (r.jobs_same i n)));
      top_rest = λ q. by_eq i j (plus_at j 1 B.U i ≡ 0)
          (λ e.
          let q' : left (v'.job i) ≡ l = rw e (ap left r.job_new ∙ left_worked a l) in
          let p : left (v'.job i) ≡ 0 = ap left q in
          absurd (omega (arith, more (sym e))))
          (λ n. plus_other j 1 B.U i n ∙ B.core.top_rest (sym (r.jobs_same i n) ∙ q));
    })
  where
    h1 : 1 ≤ R.H
    h1 = omega (arith, ok.room)

-- The run that finishes task i's job keeps the invariant.
busy_finish : (R : Rules) (i w : ℕ) (v v' : View) (j a l : ℕ) → Sound R → 1 ≤ w → Fine R v' → Ran R j a l v v' → j ≡ i → l ≡ 0 → Inv R i w v'
unfolding Calm Idle
busy_finish R i w v v' j a l ok w1 F r e z =
    calm_inv R i w v' ok w1 F (λ k lk b m q. by_eq k j (v'.clock ≤ ready R.H b)
    (λ kj.
    let s = worked_same a l b m (cc r.job_new) in
    absurd (omega (arith, s.1, s.2)))
    (λ n. omega (arith, r.clock_next, r.first k (omega arith) b m (sym (r.jobs_same k n) ∙ q))))

-- Every move in a window at work keeps the invariant.
busy_move : (R : Rules) (i w : ℕ) (v v' : View) → Sound R → 1 ≤ w → demand R i w ≤ w → Fine R v → Fine R v' → Busy R i w v → Move R v v' → Inv R i w v'
busy_move R i w v v' ok w1 fits F F' B (released j d r) = busy_release R i w v v' j d ok B r
busy_move R i w v v' ok w1 fits F F' B (ticked (slotted r)) = busy_slot R i w v v' ok fits F' B r
busy_move R i w v v' ok w1 fits F F' B (ticked (tailed r)) =
    calm_inv R i w v' ok w1 F' (idle_calm R i v v' (λ k l. r.idle k) (λ k l. r.jobs_same k) r.clock_next)
busy_move R i w v v' ok w1 fits F F' B (ticked (ran j a l r)) =
    by_lt i j (Inv R i w v')
    (λ lt. calm_inv R i w v' ok w1 F' (idle_calm R i v v' (λ k lk. r.first k (omega arith)) (λ k lk. r.jobs_same k (omega arith)) r.clock_next))
    (λ le. by_lt j i (Inv R i w v')
    (λ lt. busy_run R i w v v' j a l ok fits F F' B r le (λ e. absurd (omega arith)))
    (λ ge.
    let e : j ≡ i = omega arith in
    by_lt 0 l (Inv R i w v')
    (λ more. busy_run R i w v v' j a l ok fits F F' B r le (λ q. more))
    (λ none. busy_finish R i w v v' j a l ok w1 F' r e (omega arith))))

-- Every move keeps the invariant.
inv_move : (R : Rules) (i w : ℕ) (v v' : View) → Sound R → 1 ≤ w → demand R i w ≤ w → Fine R v → Fine R v' → Inv R i w v → Move R v v' → Inv R i w v'
inv_move R i w v v' ok w1 fits F F' (busy B) m = busy_move R i w v v' ok w1 fits F F' B m
inv_move R i w v v' ok w1 fits F F' (quiet off calm) m = quiet_move R i w v v' ok w1 F' off calm m

-- A fresh view has the invariant.
start_inv : (R : Rules) (i w : ℕ) (v : View) → Sound R → 1 ≤ w → Fresh v → Inv R i w v
unfolding Calm
start_inv R i w v ok w1 f = calm_inv R i w v ok w1 (fine_start R v f) (λ j l a m e. omega (arith, f.clock_zero))

-- Every reachable view has the invariant.
reach_inv : (R : Rules) (i w : ℕ) (v : View) → Sound R → 1 ≤ w → demand R i w ≤ w → Reach R v → Inv R i w v
reach_inv R i w v ok w1 fits (start f) = start_inv R i w v ok w1 f
reach_inv R i w v ok w1 fits (move {v = u} r m) = inv_move R i w u v ok w1 fits (reach_fine R u r) (fine_move R u v (reach_fine R u r) m) (reach_inv R i w u ok w1 fits r) m

-- THE RESPONSE BOUND: where w fits its demand at task i, a job of i that is not finished is younger than w and the wait
-- for its boundary.
pub response : (R : Rules) (i w : ℕ) (v : View) (a l : ℕ) → Sound R → 1 ≤ w → demand R i w ≤ w → Reach R v → v.job i ≡ working a l
    → v.clock < a + (w + R.wait i)
unfolding Fine Calm
response R i w v a l ok w1 fits r e = go (reach_inv R i w v ok w1 fits r)
  where
    near : ready R.H a ≤ a + R.wait i
    near = ok.waits i a (reach_fine R v r i a l e).ok

    go : Inv R i w v → v.clock < a + (w + R.wait i)
    go (busy B) = by_track (B.core.tracks i (omega arith))
      where
        by_track : Track R B.c B.x v (B.U i) i → v.clock < a + (w + R.wait i)
        by_track (waits a' l' n ea p q s z) = let ee : a' ≡ a = cc in omega (arith, B.core.now, B.short, near, rw ee at s)
        by_track (runs n p q s z) = omega (arith, B.core.now, B.short, near, s a l e)
    go (quiet off calm) = omega (arith, near, calm i (omega arith) a l e)
