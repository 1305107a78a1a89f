-- The worst pattern's calls are a pattern of the abstract scheduler: every release that is due is accepted, tick after
-- tick, as long as no task stands in the way of its own next release.
use Prim.Native.Nat.{ℕ, zero, suc, ◌+◌, ◌-◌, ◌*◌, ◌/◌, ◌%◌, ◌≤◌, ◌<◌}
use Rattle.std.proofs.Math.Path.{◌≡◌, refl, ap}
use Rattle.std.proofs.Common.{sym, subst, ◌∙◌, div-add-mod', leb-true, eqb-true, le-leb}
use Rattle.std.specs.Prelude.{◌≢◌, [], ◌∷◌, Bool, true, false, cond, leb, eqb, Ok, Option, Some, None}
use Rattle.std.proofs.Math.Bool.{and-eq-true_iff}
use native.Mathlib.Omega.{arith}
use Rattle.std.proofs.Math.Nat.{mul-mod_left}
use Rattle.base.specs.Fold.{folded}
use Rattle.base.proofs.Split.{by_lt, by_eq}
use Rattle.base.proofs.FoldLaws.{folded_append}
use Rattle.theory.specs.Rules.{Rules}
use Rattle.theory.specs.Pattern.{offset}
use Rattle.theory.proofs.System as theory
use Rattle.theory.proofs.System.{Sound, Allowed, Released, Tick}
use Rattle.theory.proofs.Worst as worst
use Rattle.theory.proofs.Worst.{Offsets, Due, Pattern, tick_last}
use Rattle.theory.proofs.Figures.{offset_good}
use Rattle.theory.proofs.Free.{Free, free_due}
use Rattle.table.specs.Bytes.{record_at, records_in}
use Rattle.table.specs.Set.{rules_of}
use Rattle.table.proofs.TimesLaws.{says_time}
use Rattle.table.proofs.SetLaws.{first_multiple}
use Rattle.scheduler.specs.declared.State.{State}
use Rattle.scheduler.specs.declared.Moved.{Moved}
use Rattle.decisions.specs.Fits.{clock_end, no_entry}
use Rattle.scheduler.specs.States.{entry_in}
use Rattle.scheduler.specs.Starts.{Given, read_given, fresh_state}
use Rattle.scheduler.proofs.GivenLaws.{given_set}
use Rattle.scheduler.specs.Releases.{released_state, release_of}
use Rattle.scheduler.specs.Steps.{tick_of, step_of, after_tick}
use Rattle.histories.specs.History.{release, step, Past, next, after, begun}
use Rattle.histories.specs.Pattern.{due_at, releases_at, worst_pattern}
use Rattle.scheduler.proofs.ReleaseLaws.{FreeTask, says_accepted}
use Rattle.scheduler.proofs.StepLaws.{step_made}
use Rattle.histories.proofs.HistoryLaws.{Counted, counted_next, counted_begun}
use Rattle.bridge.specs.Views.{last_view, view_of, rest_back, last_back, work_of, period_of}
use Rattle.bridge.specs.Moves.{beyond_rests, release_moves}
use Rattle.bridge.specs.Runs.{Bridged, records, tasks, bridged_next, bridged_begun, begun_fresh, tick_moves, rules_sound}

-- A task is due as a fact exactly where the test says that it is due.
due_says : (R : Rules) (j t : ℕ) → due_at R j t ≡ true → Due R (offset R) j t
unfolding due_at Due
due_says R j t e =
    let b = (and-eq-true_iff (leb (offset R j) t) (eqb ((t - offset R j) % R.T j) 0)).0 e in
    let l = leb-true (offset R j) t b.0 in
    let m = eqb-true ((t - offset R j) % R.T j) 0 b.1 in
    ((t - offset R j) / R.T j, omega (arith, div-add-mod' (t - offset R j) (R.T j)))

says_due : (R : Rules) (j t : ℕ) → Due R (offset R) j t → due_at R j t ≡ true
unfolding due_at Due
says_due R j t (m, e) =
    let l : offset R j ≤ t = omega arith in
    let d : t - offset R j ≡ m * R.T j = omega arith in
    rw (le-leb (offset R j) t l, d, mul-mod_left m (R.T j))

-- The spacing that the theory asks for is the spacing of releases that a state keeps.
allowed_back : (last : Option ℕ) (period clock : ℕ) → Allowed period (last_view last) clock → (a : ℕ) → last ≡ Some a → a + period ≤ clock
unfolding Allowed
allowed_back None period clock al a e = let z : ◌≡◌ {A = ℕ} 0 1 = cc in absurd (let y : ⊥ = omega arith in y)
allowed_back (Some p) period clock al a e = let pa : p ≡ a = cc in rw pa at al

-- All of this is about a sound table of n tasks, of which those up to place i follow the pattern.
module _ (g : Given) (n : ℕ) (e : read_given g ≡ Ok n) (i : ℕ) (li : i < n) where
  -- These are the rules of the table.
  abbrev R : Rules
  R = rules_of g.table

  abbrev o : ℕ → ℕ
  o = offset R

  ok : Sound R
  ok = rules_sound g n e

  pub offsets : Offsets R o
  offsets = offset_good R ((record_at g.table 1).period / (record_at g.table 0).period) (omega (arith, ok.room))
      (first_multiple (record_at g.table) (records_in g.table - 1) (given_set g n e).set)

  -- A task that is due may be released: the first task's times are multiples of H.
  due_ok : (j t : ℕ) → j ≤ i → Due R o j t → R.Ok j t
  unfolding Due offset
  due_ok j t l d = (omega (arith, (given_set g n e).tasks), says_time R.H j t (λ z. first j t d z))
    where
      first : (j t : ℕ) → Due R o j t → j ≡ 0 → t % R.H ≡ 0
      first zero t (m, q) z =
          let k : ℕ = (record_at g.table 1).period / (record_at g.table 0).period in
          let T : R.T 0 ≡ k * R.H = first_multiple (record_at g.table) (records_in g.table - 1) (given_set g n e).set in
          let q' : t ≡ R.H + m * (k * R.H) = rw T at q in
          let q'' : t ≡ suc (m * k) * R.H = omega arith in
          rw q'' (mul-mod_left (suc (m * k)) R.H)
      first (suc j) t d z = let y : ⊥ = omega arith in absurd y

  -- Within tick t, the tasks before place j have had their releases.
  pub record InTick (t j : ℕ) (p : Past) : Type 0 where
    pub bridged : Bridged (records g) (tasks g) p
    pub pattern : Pattern R o i (view_of p.state)
    pub clock_is : p.state.clock ≡ t
    pub given : (k : ℕ) → k < j → Due R o k t → (view_of p.state).last k ≡ theory.at t
    pub rest : (k q : ℕ) → j ≤ k → (entry_in p.state k).last ≡ Some q → q < t
    pub accepted : p.refusals ≡ 0
    pub counted : Counted p

  -- One release of the pattern is accepted, and the tasks before the next place have had their releases.
  give_one : (t j : ℕ) (p : Past) → j ≤ i → t < clock_end → Free R o j t → Due R o j t → InTick t j p
      → InTick t (suc j) (next p (release (j + 1) (R.C j)))
  unfolding next
  give_one t j p le before free due I = record {
    bridged = bridged_next (records g) (tasks g) p (release (j + 1) (R.C j)) B;
    pattern = rw (q) (worst.release j (R.C j) I.pattern M (λ l. (due', refl)));
    clock_is = rw q I.clock_is;
    given = λ k lk d. by_eq k j ((view_of (release_of s (j + 1) (R.C j)).state).last k ≡ theory.at t)
        (λ same. rw (same, q) (M.last_new ∙ ap theory.at I.clock_is))
        (λ other. rw q (M.lasts_same k other ∙ I.given k (omega arith) d));
    rest = λ k x lk z.
        let z' : (view_of (released_state s (j + 1) (R.C j))).last k ≡ theory.at x = rw q at (ap last_view z) in
        I.rest k x (omega arith) (last_back (entry_in s k).last x (sym (M.lasts_same k (λ same. omega arith)) ∙ z'));
    accepted = rw answer (omega (arith, I.accepted));
    counted = counted_next p (release (j + 1) (R.C j)) tt B.lawful_state.few I.counted;
  }
    where
      s : State
      s = p.state

      B : Bridged (records g) (tasks g) p
      B = I.bridged

      due' : Due R o j s.clock
      due' = rw I.clock_is due

      fresh : (view_of s).last j ≢ theory.at s.clock
      fresh z = omega (arith, I.rest j s.clock (omega arith) (last_back (entry_in s j).last s.clock z), I.clock_is)

      free' : ((view_of s).job j ≡ theory.resting) × Allowed (R.T j) ((view_of s).last j) (view_of s).clock
      free' = free_due R o i j (view_of s) ok offsets I.pattern le (rw I.clock_is free) due' fresh

      lj : j < n
      lj = omega (arith, le, li)

      lt : j < tasks g
      lt = omega (arith, lj, (given_set g n e).tasks)

      same : j + 1 - 1 ≡ j
      same = omega arith

      F : FreeTask s (j + 1) (R.C j)
      F = record {
        lawful_state = B.lawful_state;
        before_end = omega (arith, before, I.clock_is);
        from_one = omega arith;
        to_n = omega (arith, lt, B.holds.n_is);
        some = ok.work j;
        full = rw same (omega (arith, work_of (records g) (tasks g) s B.holds j lt));
        on_time = rw (same, B.holds.sleep_is) (due_ok j s.clock le due').1;
        resting = rw same (rest_back (entry_in s j).job free'.0);
        spaced = rw same (allowed_back (entry_in s j).last (entry_in s j).task.period s.clock (rw (period_of (records g) (tasks g) s B.holds j lt) at free'.1));
      }

      q : (release_of s (j + 1) (R.C j)).state ≡ released_state s (j + 1) (R.C j)
      q = rw (says_accepted s (j + 1) (R.C j) F)

      answer : (release_of s (j + 1) (R.C j)).answer ≡ Ok tt
      answer = rw (says_accepted s (j + 1) (R.C j) F)

      M : Released R j (R.C j) (view_of s) (view_of (released_state s (j + 1) (R.C j)))
      M = subst (λ (x : ℕ). Released R x (R.C j) (view_of s) (view_of (released_state s (j + 1) (R.C j)))) same
          (release_moves (records g) (tasks g) s (j + 1) (R.C j) B.holds B.sized F)

  -- The releases of tick t are accepted, and the tasks before place j have had theirs.
  give : (t j : ℕ) (p : Past) → j ≤ suc i → t < clock_end → ((k : ℕ) → k ≤ i → Free R o k t) → InTick t 0 p
      → InTick t j (after p (releases_at R j t))
  unfolding releases_at folded
  give t zero p l before free I = I
  give t (suc j) p l before free I = rw folded_append (go (due_at R j t) refl (give t j p (omega arith) before free I))
    where
      u : Past
      u = after p (releases_at R j t)

      go : (b : Bool) → due_at R j t ≡ b → InTick t j u → InTick t (suc j) (after u (cond b (release (j + 1) (R.C j) ∷ []) []))
      go true d J = give_one t j u (omega arith) before (free j (omega arith)) (due_says R j t d) J
      go false d J = record {
        bridged = J.bridged;
        pattern = J.pattern;
        clock_is = J.clock_is;
        given = λ k lk due. by_eq k j ((view_of u.state).last k ≡ theory.at t)
            (λ same.
            let yes_due : due_at R j t ≡ true = says_due R j t (rw same at due) in
            let z : ◌≡◌ {A = ℕ} 0 1 = cc in absurd (let y : ⊥ = omega arith in y))
            (λ other. J.given k (omega arith) due);
        rest = λ k x lk z. J.rest k x (omega arith) z;
        accepted = J.accepted;
        counted = J.counted;
      }

  -- No last release of a state is after its clock.
  last_past : (p : Past) → Bridged (records g) (tasks g) p → (k q : ℕ) → (entry_in p.state k).last ≡ Some q → q ≤ p.state.clock
  last_past p B k q z = by_lt k p.state.n (q ≤ p.state.clock)
      (λ l. ((B.lawful_state.task k l).last_fits q z).0)
      (λ ge.
      let r : entry_in p.state k ≡ no_entry = beyond_rests p.state B.sized B.lawful_state k ge in
      let w : None ≡ Some q = rw r at z in
      let y : ◌≡◌ {A = ℕ} 0 1 = cc in absurd (let x : ⊥ = omega arith in x))

  -- The step of tick t goes on to the next tick, in which no task has had its release.
  step_on : (t : ℕ) (p : Past) → t < clock_end → InTick t (suc i) p → InTick (suc t) 0 (next p step)
  unfolding next
  step_on t p before I = record {
    bridged = bridged_next (records g) (tasks g) p step B;
    pattern = rw q (worst.tick I.pattern T (λ j l d. rw I.clock_is (I.given j (omega arith) (rw I.clock_is at d))));
    clock_is = rw q (worst.tick_clock R (view_of s) (view_of (after_tick s (tick_of s))) T ∙ ap suc I.clock_is);
    given = λ k l d. absurd (let z : ⊥ = omega arith in z);
    rest = λ k x l z.
        let z' : (view_of (after_tick s (tick_of s))).last k ≡ theory.at x = rw q at (ap last_view z) in
        let was : (entry_in s k).last ≡ Some x = last_back (entry_in s k).last x (sym (tick_last R (view_of s) (view_of (after_tick s (tick_of s))) T k) ∙ z') in
        omega (arith, last_past p B k x was, I.clock_is);
    accepted = rw (step_made s p.tally B.lawful_state I.counted.counted in_time) (omega (arith, I.accepted));
    counted = counted_next p step tt B.lawful_state.few I.counted;
  }
    where
      s : State
      s = p.state

      B : Bridged (records g) (tasks g) p
      B = I.bridged

      in_time : s.clock < clock_end
      in_time = omega (arith, before, I.clock_is)

      q : (step_of s p.tally).state ≡ after_tick s (tick_of s)
      q = ap {A = Moved} (λ m. m.state) (step_made s p.tally B.lawful_state I.counted.counted in_time)

      T : Tick R (view_of s) (view_of (after_tick s (tick_of s)))
      T = tick_moves (records g) (tasks g) s B.holds B.sized B.lawful_state in_time

  -- THE PATTERN runs up to clock t with all its calls accepted.
  pub pattern_runs : (t : ℕ) → t ≤ clock_end → ((s k : ℕ) → s < t → k ≤ i → Free R o k s)
      → InTick t 0 (after (begun (fresh_state g n)) (worst_pattern R (suc i) t))
  unfolding worst_pattern folded
  pattern_runs zero l free = record {
    bridged = bridged_begun g n e;
    pattern = worst.begin (begun_fresh g n e);
    clock_is = refl;
    given = λ k lk d. absurd (let z : ⊥ = omega arith in z);
    rest = λ k x lk z.
        let never : (view_of (fresh_state g n)).last k ≡ theory.never = (begun_fresh g n e).all_never k in
        let at_x : (view_of (fresh_state g n)).last k ≡ theory.at x = ap last_view z in
        let y : ◌≡◌ {A = ℕ} 0 1 = cc in absurd (let w : ⊥ = omega arith in w);
    accepted = refl;
    counted = counted_begun g n;
  }
  pattern_runs (suc t) l free =
      let I = pattern_runs t (omega arith) (λ s k ls lk. free s k (omega arith) lk) in
      let J = give t (suc i) (after (begun (fresh_state g n)) (worst_pattern R (suc i) t)) (omega arith) (omega arith) (λ k lk. free t k (omega arith) lk) I in
      rw (folded_append, folded_append) (step_on t (after (after (begun (fresh_state g n)) (worst_pattern R (suc i) t)) (releases_at R (suc i) t)) (omega arith) J)
