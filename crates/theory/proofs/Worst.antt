-- The worst pattern reaches the window: each task up to i is released at its offset and every period after, with full
-- demand. When the first job of task i finishes x ticks after tick H, the demand of x is at most x.
use Prim.Native.Nat.{ℕ, zero, suc, ◌+◌, ◌-◌, ◌*◌, ◌%◌, ◌≤◌, ◌<◌}
use mathlib.Core.Path.{◌≡◌, refl, ap, sym, ◌∙◌}
use mathlib.Core.Logic.{◌≢◌}
use native.Mathlib.Omega.{arith}
use native.Mathlib.Numerals.{add-one}
use native.Mathlib.Nat.{mul-le-mul_right, mul-le-mul_left, mod-eq-sub-mod}
use Rattle.base.specs.Sum.{sum_to, plus_at}
use Rattle.base.proofs.Split.{by_lt, by_eq}
use Rattle.base.proofs.SumLaws.{sum_to_mono, sum_to_zero, plus_same, plus_other, sum_plus}
use Rattle.theory.specs.Round.{ceil}
use Rattle.theory.specs.Rules.{Rules, ready, demand}
use Rattle.theory.proofs.RoundLaws.{ceil_near, ceil_least, slots, slots_zero, slots_slot, slots_other, slots_all}
use Rattle.theory.proofs.System.{Job, View, Sound, left, Allowed, Idle, Released, Slotted, Ran, Tick, Fresh, Reach, resting, working, never, at, slotted, ran, tailed, released, ticked, start, move}
use Rattle.theory.proofs.ReadyLaws.{ready_first, ready_by}
use Rattle.theory.proofs.Reachable.{Facts, Fine, left_worked, reach_fine}

-- The offsets are from 1 to H, and no boundary lies between m periods and m periods after the offset.
pub record Offsets (R : Rules) (o : ℕ → ℕ) : Type 0 where
  pub low : (j : ℕ) → 1 ≤ o j
  pub high : (j : ℕ) → o j ≤ R.H
  pub tight : (j k m : ℕ) → k * R.H < o j + m * R.T j → k * R.H ≤ m * R.T j

-- Task j is due at t: t is its offset and some periods.
unfoldable pub Due : Rules → (ℕ → ℕ) → ℕ → ℕ → Type 0
Due R o j t = (m : ℕ) × (t ≡ o j + m * R.T j)

-- In these views the tasks up to i follow the pattern: they are released when due, with full demand, and at no other
-- time; a tick comes only when all that are due have been released. The tasks after i come as they like.
pub data Pattern (R : Rules) (o : ℕ → ℕ) (i : ℕ) : View → Type 0 where
  begin : {v : View} → Fresh v → Pattern R o i v
  release : {v v' : View} (j d : ℕ) → Pattern R o i v → Released R j d v v'
      → (j ≤ i → Due R o j v.clock × (d ≡ R.C j)) → Pattern R o i v'
  tick : {v v' : View} → Pattern R o i v → Tick R v v'
      → ((j : ℕ) → j ≤ i → Due R o j v.clock → v.last j ≡ at v.clock) → Pattern R o i v'

-- Every view of the pattern is reachable.
pub pattern_reach : (R : Rules) (o : ℕ → ℕ) (i : ℕ) (v : View) → Pattern R o i v → Reach R v
pattern_reach R o i v (begin f) = start f
pattern_reach R o i v (release {v = u} j d p r f) = move (pattern_reach R o i u p) (released j d r)
pattern_reach R o i v (tick {v = u} p r f) = move (pattern_reach R o i u p) (ticked r)

-- Exactly m jobs of task j have come, and none is missing.
pub data Count (R : Rules) (o : ℕ → ℕ) (v : View) (j m : ℕ) : Type 0 where
  none : v.last j ≡ never → m ≡ 0 → v.clock ≤ o j → Count R o v j m
  some : (p : ℕ) → v.last j ≡ at p → p ≤ v.clock → 1 ≤ m → p + R.T j ≡ o j + m * R.T j → v.clock ≤ o j + m * R.T j
      → Count R o v j m

-- A move that leaves task j and the clock alone keeps the count of its jobs.
count_keep : (R : Rules) (o : ℕ → ℕ) (v v' : View) (j m : ℕ) → v'.last j ≡ v.last j → v'.clock ≡ v.clock → Count R o v j m → Count R o v' j m
count_keep R o v v' j m el ec (none e z l) = none (el ∙ e) z (omega arith)
count_keep R o v v' j m el ec (some p e pl m1 q l) = some p (el ∙ e) (omega arith) m1 q (omega arith)

-- A release of task j that is due raises the count of its jobs by one.
count_release : (R : Rules) (o : ℕ → ℕ) (v v' : View) (j d m : ℕ) → Released R j d v v' → Due R o j v.clock → Count R o v j m → Count R o v' j (suc m)
unfolding Due Allowed
count_release R o v v' j d m r due (none e z l) =
    some v.clock r.last_new (omega (arith, r.clock_same)) (omega arith) (omega (arith, due.1, ap (λ (k : ℕ). k * R.T j) z)) (omega (arith, r.clock_same))
count_release R o v v' j d m r due (some p e pl m1 q l) =
    let al : p + R.T j ≤ v.clock = rw e at r.spaced in
    some v.clock r.last_new (omega (arith, r.clock_same)) (omega arith) (omega arith) (omega (arith, r.clock_same))

-- A tick before which every job that is due has come keeps the count of jobs.
count_tick : (R : Rules) (o : ℕ → ℕ) (v v' : View) (j m : ℕ) → Sound R → v'.last j ≡ v.last j → v'.clock ≡ suc v.clock
    → (Due R o j v.clock → v.last j ≡ at v.clock) → Count R o v j m → Count R o v' j m
unfolding Due
count_tick R o v v' j m ok el ec due (none e z l) =
    none (el ∙ e) z (by_eq v.clock (o j) (v'.clock ≤ o j)
    (λ q.
    let d : v.last j ≡ at v.clock = due (0, omega arith) in
    let z : ◌≡◌ {A = ℕ} 0 1 = cc in absurd (omega arith))
    (λ n. omega arith))
count_tick R o v v' j m ok el ec due (some p e pl m1 q l) =
    some p (el ∙ e) (omega arith) m1 q (by_eq v.clock (o j + m * R.T j) (v'.clock ≤ o j + m * R.T j)
    (λ s.
    let d : v.last j ≡ at v.clock = due (m, s) in
    let pc : p ≡ v.clock = cc in absurd (omega (arith, ok.period j)))
    (λ n. omega arith))

-- No job that is due before now is missing.
count_ahead : (R : Rules) (o : ℕ → ℕ) (v : View) (j m : ℕ) → Count R o v j m → v.clock ≤ o j + m * R.T j
count_ahead R o v j m (none e z l) = omega arith
count_ahead R o v j m (some p e pl m1 q l) = l

-- The last job that came is the one counted last.
count_last : (R : Rules) (o : ℕ → ℕ) (v : View) (j m a : ℕ) → v.last j ≡ at a → Count R o v j m → (1 ≤ m) × (a + R.T j ≡ o j + m * R.T j)
count_last R o v j m a h (none e z l) = let z : ◌≡◌ {A = ℕ} 0 1 = cc in absurd (omega arith)
count_last R o v j m a h (some p e pl m1 q l) = let pa : p ≡ a = cc in (m1, omega arith)

-- A job with work left is at work.
left_works : (J : Job) → 1 ≤ left J → (a : ℕ) × (l : ℕ) × (J ≡ working a l)
unfolding left
left_works resting h = absurd (omega arith)
left_works (working a l) h = (a, l, refl)

-- Task i's first job is not finished: from tick H on each tick was a slot tick or run by a task up to i, U j of them by
-- task j.
pub record Low (R : Rules) (o : ℕ → ℕ) (i : ℕ) (v : View) (m U : ℕ → ℕ) : Type 0 where
  pub all : v.clock - R.H ≡ slots R.H R.S (v.clock - R.H) + sum_to (suc i) U
  pub done : (j : ℕ) → j ≤ i → U j + left (v.job j) ≡ m j * R.C j
  pub once : m i ≤ 1
  pub unfinished : m i ≡ 1 → 1 ≤ left (v.job i)

-- Task i's first job is not finished, or finished x ticks after tick H, where the demand of x is at most x.
pub data Stage (R : Rules) (o : ℕ → ℕ) (i : ℕ) (v : View) (m : ℕ → ℕ) : Type 0 where
  low : (U : ℕ → ℕ) → Low R o i v m U → Stage R o i v m
  closed : (x : ℕ) → R.H + x ≤ v.clock → demand R i x ≤ x → Stage R o i v m

-- The invariant of the pattern counts the jobs of each task up to i, and says where task i's first job stands.
pub record Follows (R : Rules) (o : ℕ → ℕ) (i : ℕ) (v : View) : Type 0 where
  pub m : ℕ → ℕ
  pub counts : (j : ℕ) → j ≤ i → Count R o v j (m j)
  pub stage : Stage R o i v m

-- A fresh view has the invariant of the pattern.
follows_start : (R : Rules) (o : ℕ → ℕ) (i : ℕ) (v : View) → Sound R → Offsets R o → Fresh v → Follows R o i v
unfolding left
follows_start R o i v ok O f = record {
  m = λ j. 0;
  counts = λ j l. none (f.all_never j) refl (omega (arith, f.clock_zero));
  stage = low (λ j. 0) (record {
    all =
        let z : v.clock - R.H ≡ 0 = omega (arith, f.clock_zero) in
        rw z (omega (arith, slots_zero R.H R.S (omega (arith, ok.room)), sum_to_zero (suc i)));
    done = λ j l. omega (arith, ap left (f.all_rest j));
    once = omega arith;
    unfinished = λ h. absurd (omega arith);
  });
}

-- A release keeps the invariant of the pattern.
follows_release : (R : Rules) (o : ℕ → ℕ) (i : ℕ) (v v' : View) (j d : ℕ) → Sound R → Released R j d v v'
    → (j ≤ i → Due R o j v.clock × (d ≡ R.C j)) → Follows R o i v → Follows R o i v'
unfolding left
follows_release R o i v v' j d ok r f F = record {
  m = plus_at j 1 F.m;
  counts = λ k l. by_eq k j (Count R o v' k (plus_at j 1 F.m k))
      (λ e. rw e (rw (plus_same j 1 F.m, add-one) (count_release R o v v' j d (F.m j) r (f (omega arith)).0 (rw e at (F.counts k l)))))
      (λ n. rw (plus_other j 1 F.m k n) (count_keep R o v v' k (F.m k) (r.lasts_same k n) r.clock_same (F.counts k l)));
  stage = go F.stage;
}
  where
    go : Stage R o i v F.m → Stage R o i v' (plus_at j 1 F.m)
    go (closed x h q) = closed x (omega (arith, r.clock_same)) q
    go (low U L) = low U (record {
      all = rw r.clock_same L.all;
      done = λ k l. by_eq k j (U k + left (v'.job k) ≡ plus_at j 1 F.m k * R.C k)
          (λ e.
          let dd : d ≡ R.C j = (f (omega arith)).1 in
          let D : U j + left (v.job j) ≡ F.m j * R.C j = L.done j (omega arith) in
          rw e (rw (plus_same j 1 F.m) (omega (arith, ap left r.job_new, ap left r.free))))
          (λ n. rw (plus_other j 1 F.m k n) (rw (r.jobs_same k n) (L.done k l)));
      once = by_eq i j (plus_at j 1 F.m i ≤ 1)
          (λ e.
          let rest : v.job i ≡ resting = rw e r.free in
          let b : plus_at j 1 F.m i ≡ F.m i + 1 = rw e (plus_same j 1 F.m) in
          let zero_yet : F.m i ≢ 1 = λ q. absurd (omega (arith, L.unfinished q, ap left rest)) in
          omega (arith, L.once))
          (λ n. omega (arith, L.once, plus_other j 1 F.m i n));
      unfinished = λ h. by_eq i j (1 ≤ left (v'.job i))
          (λ e.
          let q : v'.job i ≡ working v.clock d = rw e r.job_new in
          omega (arith, ap left q, r.some))
          (λ n. omega (arith, ap left (r.jobs_same i n), L.unfinished (sym (plus_other j 1 F.m i n) ∙ h)));
    })

-- From tick H on, task i's first job has come and may run.
first_may : (R : Rules) (o : ℕ → ℕ) (i : ℕ) (v : View) (m U : ℕ → ℕ) → Sound R → Offsets R o → Fine R v → Count R o v i (m i)
    → (Due R o i v.clock → v.last i ≡ at v.clock) → R.H ≤ v.clock → Low R o i v m U
    → (a : ℕ) × (l : ℕ) × (v.job i ≡ working a l) × (ready R.H a ≤ v.clock)
unfolding Due Fine
first_may R o i v m U ok O F k due late L =
    let m1 : m i ≡ 1 = omega (arith, L.once, come k) in
    let J = left_works (v.job i) (L.unfinished m1) in
    let c = count_last R o v i (m i) J.0 (F i J.0 J.1 J.2).last_is k in (
      J.0,
      J.1,
      J.2,
      omega (
        arith,
        c.1,
        ap (λ (n : ℕ). n * R.T i) m1,
        O.high i,
        ready_by R.H J.0 1 (omega (arith, ok.room)) (omega (arith, c.1, ap (λ (n : ℕ). n * R.T i) m1, O.high i)),
      ),
    )
  where
    come : Count R o v i (m i) → 1 ≤ m i
    come (some p e pl m1 q l) = m1
    come (none e z l) =
        let d : v.last i ≡ at v.clock = due (0, omega (arith, O.high i)) in
        let z : ◌≡◌ {A = ℕ} 0 1 = cc in absurd (omega arith)

-- A job that may run before tick H is not of a task that follows the pattern.
not_early : (R : Rules) (o : ℕ → ℕ) (v : View) (j m a l : ℕ) → Sound R → Offsets R o → Fine R v → Count R o v j m
    → v.job j ≡ working a l → R.H ≤ ready R.H a
unfolding Fine
not_early R o v j m a l ok O F k e =
    let c = count_last R o v j m a (F j a l e).last_is k in
    ready_first R.H a (omega (arith, ok.room)) (omega (arith, c.1, O.low j, mul-le-mul_right (R.T j) c.0))

-- A task above i that is idle after boundary k has had all its work of the jobs due by k.
work_done : (R : Rules) (o : ℕ → ℕ) (v : View) (j m u k : ℕ) → Sound R → Offsets R o → Fine R v → Count R o v j m
    → v.clock < o j + m * R.T j → k * R.H ≤ v.clock → Idle R v j → u + left (v.job j) ≡ m * R.C j
    → R.C j * ceil (k * R.H) (R.T j) ≤ u
unfolding Fine Idle left
work_done R o v j m u k ok O F c ahead by idle done = go (v.job j) refl
  where
    go : (J : Job) → v.job j ≡ J → R.C j * ceil (k * R.H) (R.T j) ≤ u
    go resting e =
        omega (
          arith,
          ap left e,
          mul-le-mul_left (R.C j)
              (ceil_least (k * R.H) (R.T j) m (ok.period j) (O.tight j k m (omega arith))),
        )
    go (working a l) e =
        let f = F j a l e in
        let q = count_last R o v j m a f.last_is c in
        let after : k * R.H < a = by_lt (k * R.H) a (k * R.H < a) (λ h. h)
        (λ h. absurd (omega (arith, idle a l e, ready_by R.H a k (omega (arith, ok.room)) h))) in
        less m q.0 q.1 f after done
      where
        less : (n : ℕ) → 1 ≤ n → a + R.T j ≡ o j + n * R.T j → Facts R v j a l → k * R.H < a → u + left (v.job j) ≡ n * R.C j
            → R.C j * ceil (k * R.H) (R.T j) ≤ u
        less zero p q f h d = absurd (omega arith)
        less (suc n) p q f h d =
            omega (
              arith,
              ap left e,
              f.full,
              mul-le-mul_left (R.C j)
                  (ceil_least (k * R.H) (R.T j) n (ok.period j) (O.tight j k n (omega arith))),
            )

-- When a run finishes task i's first job, the demand of the ticks since tick H is at most those ticks.
low_finish : (R : Rules) (o : ℕ → ℕ) (i : ℕ) (v v' : View) (a : ℕ) (m U : ℕ → ℕ) → Sound R → Offsets R o → Fine R v
    → ((j : ℕ) → j ≤ i → Count R o v j (m j)) → ((j : ℕ) → j ≤ i → v.clock < o j + m j * R.T j) → R.H ≤ v.clock
    → Ran R i a 0 v v' → Low R o i v m U → m i ≡ 1 → (x : ℕ) → R.H + x ≡ v.clock → demand R i (suc x) ≤ suc x
unfolding demand sum_to left
low_finish R o i v v' a m U ok O F counts ahead late r L m1 x ex =
    let h1 : 1 ≤ R.H = omega (arith, ok.room) in
    let xe : v.clock - R.H ≡ x = omega arith in
    let A : x ≡ slots R.H R.S x + sum_to (suc i) U = rw xe at L.all in
    let sx : R.S ≤ x % R.H = rw (mod-eq-sub-mod {n = v.clock} {m = R.H} late, xe) at r.no_slot in
    let mine : U i + 1 ≡ R.C i = omega (arith, L.done i (omega arith), ap left r.was, ap (λ (n : ℕ). n * R.C i) m1) in
    let K : ceil (suc x) R.H * R.H ≤ v.clock = omega (arith, ceil_near (suc x) R.H h1) in
    omega (
      arith,
      slots_all R.H R.S x h1 ok.room sx,
      slots_other R.H R.S x h1 ok.room sx,
      sum_to_mono i (λ j. R.C j * ceil (ceil (suc x) R.H * R.H) (R.T j)) U
          (λ j l. work_done R o v j (m j) (U j) (ceil (suc x) R.H) ok O F (counts j (omega arith)) (ahead j (omega arith)) K
          (r.first j l) (L.done j (omega arith))),
    )

-- A tick before tick H runs no task up to i, so the first job stays unfinished.
low_early : (R : Rules) (o : ℕ → ℕ) (i : ℕ) (v v' : View) (m U : ℕ → ℕ) → v.clock < R.H → v'.clock ≡ suc v.clock
    → ((k : ℕ) → k ≤ i → v'.job k ≡ v.job k) → Low R o i v m U → Low R o i v' m U
low_early R o i v v' m U early next same L = record {
  all =
      let e : v.clock - R.H ≡ 0 = omega arith in
      let e' : v'.clock - R.H ≡ 0 = omega arith in
      rw e' (rw e at L.all);
  done = λ k l. rw (same k l) (L.done k l);
  once = L.once;
  unfinished = λ h. rw (same i (omega arith)) (L.unfinished h);
}

-- A slot tick from tick H on leaves task i's first job unfinished.
low_slot : (R : Rules) (o : ℕ → ℕ) (i : ℕ) (v v' : View) (m U : ℕ → ℕ) → Sound R → R.H ≤ v.clock → Slotted R v v'
    → Low R o i v m U → Low R o i v' m U
low_slot R o i v v' m U ok late r L = record {
  all =
      let e' : v'.clock - R.H ≡ suc (v.clock - R.H) = omega (arith, r.clock_next) in
      rw e' (omega (
        arith,
        L.all,
        slots_slot R.H R.S (v.clock - R.H) (omega (arith, ok.room)) ok.room
            (rw (mod-eq-sub-mod {n = v.clock} {m = R.H} late) at r.slot),
      ));
  done = λ k l. rw (r.jobs_same k) (L.done k l);
  once = L.once;
  unfinished = λ h. rw (r.jobs_same i) (L.unfinished h);
}

-- A run of a task up to i that does not finish task i's job leaves its first job unfinished.
low_run : (R : Rules) (o : ℕ → ℕ) (i : ℕ) (v v' : View) (j a l : ℕ) (m U : ℕ → ℕ) → Sound R → R.H ≤ v.clock → j ≤ i
    → Ran R j a l v v' → (j ≡ i → 1 ≤ l) → Low R o i v m U → Low R o i v' m (plus_at j 1 U)
unfolding left
low_run R o i v v' j a l m U ok late le r more L = record {
  all =
      let e' : v'.clock - R.H ≡ suc (v.clock - R.H) = omega (arith, r.clock_next) in
      rw e' (omega (
        arith,
        L.all,
        sum_plus (suc i) j 1 U (omega arith),
        slots_other R.H R.S (v.clock - R.H) (omega (arith, ok.room)) ok.room
            (rw (mod-eq-sub-mod {n = v.clock} {m = R.H} late) at r.no_slot),
      ));
  done = λ k lk. by_eq k j (plus_at j 1 U k + left (v'.job k) ≡ m k * R.C k)
      (λ e.
      let q : left (v'.job j) ≡ l = ap left r.job_new ∙ left_worked a l in
      rw e (omega (arith, plus_same j 1 U, ap left r.was, L.done j le)))
      (λ n. rw (plus_other j 1 U k n, r.jobs_same k n) (L.done k lk));
  once = L.once;
  unfinished = λ h. by_eq i j (1 ≤ left (v'.job i))
      (λ e.
      let q : left (v'.job i) ≡ l = rw e (ap left r.job_new ∙ left_worked a l) in
      omega (arith, more (sym e)))
      (λ n. rw (r.jobs_same i n) (L.unfinished h));
}

-- Task i is not idle from tick H on.
not_idle : (R : Rules) (o : ℕ → ℕ) (i : ℕ) (v : View) (m U : ℕ → ℕ) → Sound R → Offsets R o → Fine R v → Count R o v i (m i)
    → (Due R o i v.clock → v.last i ≡ at v.clock) → R.H ≤ v.clock → Low R o i v m U → Idle R v i → ⊥
unfolding Idle
not_idle R o i v m U ok O F k due late L idle =
    let f = first_may R o i v m U ok O F k due late L in
    omega (arith, f.3, idle f.0 f.1 f.2)

-- A run of task i that leaves it no work finishes its first job, with the demand of the ticks since tick H at most
-- them.
low_close : (R : Rules) (o : ℕ → ℕ) (i : ℕ) (v v' : View) (j a l : ℕ) (m U : ℕ → ℕ) → Sound R → Offsets R o → Fine R v
    → ((j : ℕ) → j ≤ i → Count R o v j (m j)) → ((j : ℕ) → j ≤ i → v.clock < o j + m j * R.T j) → R.H ≤ v.clock
    → Ran R j a l v v' → j ≡ i → l ≡ 0 → Low R o i v m U → Stage R o i v' m
unfolding Fine
low_close R o i v v' j a l m U ok O F counts ahead late r e z L =
    let r' : Ran R i a 0 v v' = rw (e, z) at r in
    let k = count_last R o v i (m i) a (F i a 1 r'.was).last_is (counts i (omega arith)) in
    closed (suc (v.clock - R.H)) (omega (arith, r.clock_next))
    (low_finish R o i v v' a m U ok O F counts ahead late r' L (omega (arith, k.0, L.once)) (v.clock - R.H) (omega arith))

-- A tick leaves task i's first job unfinished, or finishes it with the demand of the ticks since tick H at most them.
low_tick : (R : Rules) (o : ℕ → ℕ) (i : ℕ) (v v' : View) (m U : ℕ → ℕ) → Sound R → Offsets R o → Fine R v
    → ((j : ℕ) → j ≤ i → Count R o v j (m j)) → ((j : ℕ) → j ≤ i → v.clock < o j + m j * R.T j)
    → (Due R o i v.clock → v.last i ≡ at v.clock) → Low R o i v m U → Tick R v v' → Stage R o i v' m
low_tick R o i v v' m U ok O F counts ahead due L (slotted r) =
    by_lt v.clock R.H (Stage R o i v' m)
    (λ early. low U (low_early R o i v v' m U early r.clock_next (λ k l. r.jobs_same k) L))
    (λ late. low U (low_slot R o i v v' m U ok late r L))
low_tick R o i v v' m U ok O F counts ahead due L (tailed r) =
    by_lt v.clock R.H (Stage R o i v' m)
    (λ early. low U (low_early R o i v v' m U early r.clock_next (λ k l. r.jobs_same k) L))
    (λ late. absurd (not_idle R o i v m U ok O F (counts i (omega arith)) due late L (r.idle i)))
low_tick R o i v v' m U ok O F counts ahead due L (ran j a l r) =
    by_lt v.clock R.H (Stage R o i v' m)
    (λ early. by_lt i j (Stage R o i v' m)
    (λ lt. low U (low_early R o i v v' m U early r.clock_next (λ k lk. r.jobs_same k (omega arith)) L))
    (λ le. absurd (omega (arith, r.may, not_early R o v j (m j) a (suc l) ok O F (counts j le) r.was))))
    (λ late. by_lt i j (Stage R o i v' m)
    (λ lt. absurd (not_idle R o i v m U ok O F (counts i (omega arith)) due late L (r.first i lt)))
    (λ le. by_lt j i (Stage R o i v' m)
    (λ lt. low (plus_at j 1 U) (low_run R o i v v' j a l m U ok late le r (λ e. absurd (omega arith)) L))
    (λ ge. by_lt 0 l (Stage R o i v' m)
    (λ more. low (plus_at j 1 U) (low_run R o i v v' j a l m U ok late le r (λ e. more) L))
    (λ no_more. low_close R o i v v' j a l m U ok O F counts ahead late r (omega arith) (omega arith) L))))

-- A tick moves the clock by one.
pub tick_clock : (R : Rules) (v v' : View) → Tick R v v' → v'.clock ≡ suc v.clock
tick_clock R v v' (slotted r) = r.clock_next
tick_clock R v v' (ran j a l r) = r.clock_next
tick_clock R v v' (tailed r) = r.clock_next

-- A tick changes no last release.
pub tick_last : (R : Rules) (v v' : View) → Tick R v v' → (k : ℕ) → v'.last k ≡ v.last k
tick_last R v v' (slotted r) = r.lasts_same
tick_last R v v' (ran j a l r) = r.lasts_same
tick_last R v v' (tailed r) = r.lasts_same

-- A tick keeps the invariant of the pattern.
follows_tick : (R : Rules) (o : ℕ → ℕ) (i : ℕ) (v v' : View) → Sound R → Offsets R o → Fine R v → Tick R v v'
    → ((j : ℕ) → j ≤ i → Due R o j v.clock → v.last j ≡ at v.clock) → Follows R o i v → Follows R o i v'
follows_tick R o i v v' ok O F t due f = record {
  m = f.m;
  counts = counts;
  stage = go f.stage;
}
  where
    counts : (j : ℕ) → j ≤ i → Count R o v' j (f.m j)
    counts j l = count_tick R o v v' j (f.m j) ok (tick_last R v v' t j) (tick_clock R v v' t) (due j l) (f.counts j l)

    go : Stage R o i v f.m → Stage R o i v' f.m
    go (closed x h q) = closed x (omega (arith, tick_clock R v v' t)) q
    go (low U L) =
        low_tick R o i v v' f.m U ok O F f.counts
        (λ j l. omega (arith, tick_clock R v v' t, count_ahead R o v' j (f.m j) (counts j l)))
        (due i (omega arith)) L t

-- Every view of the pattern has the invariant of the pattern.
pub follows : (R : Rules) (o : ℕ → ℕ) (i : ℕ) (v : View) → Sound R → Offsets R o → Pattern R o i v → Follows R o i v
follows R o i v ok O (begin f) = follows_start R o i v ok O f
follows R o i v ok O (release {v = u} j d p r f) = follows_release R o i u v j d ok r f (follows R o i u ok O p)
follows R o i v ok O (tick {v = u} p t f) =
    follows_tick R o i u v ok O (reach_fine R u (pattern_reach R o i u p)) t f (follows R o i u ok O p)

-- THE PATTERN IS NO BETTER THAN THE DEMAND: after its offset, task i's first job is at work, or a window x fits its
-- demand that ends, counted from tick H, by now.
pub data Standing (R : Rules) (o : ℕ → ℕ) (i : ℕ) (v : View) : Type 0 where
  at_work : (l : ℕ) → 1 ≤ l → v.job i ≡ working (o i) l → Standing R o i v
  fitted : (x : ℕ) → R.H + x ≤ v.clock → demand R i x ≤ x → Standing R o i v

-- Every view of the pattern after the offset has a standing.
pub standing : (R : Rules) (o : ℕ → ℕ) (i : ℕ) (v : View) → Sound R → Offsets R o → Pattern R o i v → o i < v.clock → Standing R o i v
unfolding Fine
standing R o i v ok O p after = go (follows R o i v ok O p)
  where
    F : Fine R v
    F = reach_fine R v (pattern_reach R o i v p)

    go : Follows R o i v → Standing R o i v
    go f = by_stage f.stage
      where
        by_stage : Stage R o i v f.m → Standing R o i v
        by_stage (closed x h q) = fitted x h q
        by_stage (low U L) =
            let k = f.counts i (omega arith) in
            let m1 : f.m i ≡ 1 = once (f.m i) L.once (count_ahead R o v i (f.m i) k) in
            let J = left_works (v.job i) (L.unfinished m1) in
            let g = F i J.0 J.1 J.2 in
            let c = count_last R o v i (f.m i) J.0 g.last_is k in
            let e : J.0 ≡ o i = omega (arith, c.1, ap (λ (n : ℕ). n * R.T i) m1) in
            at_work J.1 g.some (rw (← e) J.2)
          where
            once : (n : ℕ) → n ≤ 1 → v.clock ≤ o i + n * R.T i → n ≡ 1
            once zero h q = absurd (omega arith)
            once (suc n) h q = omega arith
