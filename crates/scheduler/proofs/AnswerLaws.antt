-- A call's answer is the lowest-numbered refusal that applies, and accepted where none does: its tests are a chain
-- (table/proofs/LowestLaws.antt), and each is shown to tell whether its own refusal applies.
use Rattle.std.specs.Prelude.{Result, Ok, Err, Option, Some, None}
use Prim.Native.Nat.{ℕ, ◌+◌, ◌-◌, ◌%◌, ◌≤◌, ◌<◌}
use mathlib.Core.Path.{◌≡◌, refl, ap, subst, sym, ◌∙◌}
use mathlib.Core.Logic.{◌↔◌, ◌≢◌, ◌⊎◌, inl, inr, ⊎_elim}
use mathlib.Core.Bool.{Bool, true, false, cond, ◌&&◌}
use native.Mathlib.Omega.{arith}
use lib.Dec.{leb, eqb}
use borrow.Author.Tests.{leb-true, ltb-true, eqb-true, le-leb, lt-ltb, le-ltb, eq-eqb}
use Rattle.base.proofs.Split.{by_lt, by_eq}
use Rattle.base.proofs.ChoiceLaws.{both}
use Rattle.table.specs.declared.Refusal.{Refusal}
use Rattle.table.specs.declared.Refusal.TheVariants as refusal
use Rattle.table.specs.Refusals.{start_gives}
use Rattle.table.specs.Times.{release_time}
use Rattle.table.specs.Bytes.{record_at}
use Rattle.table.specs.Applies.{Lowest}
use Rattle.table.proofs.TimesLaws.{time_says, says_time}
use Rattle.table.specs.Rules.{SoundTable}
use Rattle.table.proofs.SoundLaws.{refused_not_sound, read_sound, sound_read, reading_gives_lem}
use Rattle.table.proofs.LowestLaws.{not_both, fails, holds, number, lowest_of_first, Chain, first, more, when, unless, past, one_lowest}
use Rattle.table.proofs.ReadingLaws.{table_numbers, reading_refused_exactly, sound_none_applies}
use Rattle.decisions.specs.declared.Job.{Job}
use Rattle.decisions.specs.declared.Job.TheVariants.{Resting, Working}
use Rattle.scheduler.specs.declared.State.{State}
use Rattle.decisions.specs.declared.Tally.{Tally}
use Rattle.decisions.specs.declared.Tick.{Tick}
use Rattle.scheduler.specs.declared.Moved.{Moved}
use Rattle.decisions.specs.Fits.{clock_end, total, tally_fits}
use Rattle.scheduler.specs.States.{head_of, entry_in, state_fits}
use Rattle.scheduler.specs.Lawful.{LawfulState}
use Rattle.scheduler.specs.Starts.{Given, no_state, start_of}
use Rattle.decisions.specs.Asks.{working, early, ask_spacing, ask_time, ask_demand, ask_task, may_release, may_step}
use Rattle.scheduler.specs.Releases.{release_answer, release_of}
use Rattle.scheduler.specs.Steps.{tick_of, step_from, step_of}
use Rattle.decisions.specs.declared.Powers.{Powers}
use Rattle.decisions.specs.Energies.{power_most, energy_in, energy_of}
use Rattle.scheduler.specs.Applies.{StartApplies, Startable, ReleaseApplies, Releasable, RulesKept, StepApplies, EnergyApplies}
use Rattle.scheduler.specs.Fresh.{Fresh}
use Rattle.scheduler.proofs.StateLaws.{fits_says, says_fits}
use Rattle.scheduler.proofs.ReleaseLaws.{release_answer_lem, accepted_says, says_accepted, refused_not}
use Rattle.scheduler.proofs.StepLaws.{StepIs, moves, stays, step_is, step_made}
use Rattle.scheduler.proofs.GivenLaws.{StartIs, unsound, long, starts, start_is, given_startable, startable_given, started_reads}
use Rattle.scheduler.proofs.StartLaws.{fresh_record, fresh_rests, fresh_lawful}

-- From 6 on a number belongs to one refusal, which `due` gives.
abbrev due : ℕ → Refusal
due k =
    cond (eqb k 6) refusal.Unfit
    (cond (eqb k 7) refusal.ClockEnd
    (cond (eqb k 8) refusal.NoTask
    (cond (eqb k 9) refusal.Demand
    (cond (eqb k 10) refusal.OffBoundary
    (cond (eqb k 11) refusal.Working refusal.Early)))))

-- `Says` is what an answer says of the refusals that apply: that its own is the lowest, or that none does.
abbrev Says : (Refusal → Type 0) → Result (Unit {0}) Refusal → Type 0
Says Applies (Ok tt) = (q : Refusal) → Applies q → ⊥
Says Applies (Err r) = Lowest Applies r

-- `chain` is the chain of a call that refuses with numbers from 6 on.
abbrev chain : (Applies : Refusal → Type 0) (end : ℕ) → ((q : Refusal) → Applies q → (6 ≤ number q) × (number q < end) × (due (number q) ≡ q)) → Chain Applies (Result (Unit {0}) Refusal)
chain Applies end known = record { low = 6; end = end; due = due; known = known; refused = Err; Says = Says Applies; says = λ r L. L }

-- A call is refused exactly with the lowest refusal that applies.
refused_exactly : {Applies : Refusal → Type 0} (C : Chain Applies (Result (Unit {0}) Refusal)) (a : Result (Unit {0}) Refusal) → Says Applies a → (r : Refusal) → (a ≡ Err r) ↔ Lowest Applies r
refused_exactly C (Ok tt) S r = (
  λ e. let z : ◌≡◌ {A = ℕ} 0 1 = cc in absurd (let y : ⊥ = omega arith in y),
  λ L. absurd (S r L.applies),
)
refused_exactly {Applies} C (Err q) S r = (
  λ e. let same : q ≡ r = cc in subst (Lowest Applies) same S,
  λ L. ap Err (one_lowest C q r S L),
)

-- Test 6 of a release tells whether the state keeps its rules.
state_test : (s : State) → (state_fits s ≡ true) ↔ LawfulState s
state_test s = (fits_says s, says_fits s)

-- Test 7 tells, of a clock not after its end, whether it stands there.
end_test : (clock : ℕ) → clock ≤ clock_end → (leb clock_end clock ≡ true) ↔ (clock ≡ clock_end)
end_test clock l = (λ e. omega (arith, leb-true clock_end clock e), λ e. le-leb clock_end clock (omega arith))

-- Tests 8 and 9 tell whether a number is within its bounds.
between_test : (a x b : ℕ) → (leb a x && leb x b ≡ true) ↔ ((a ≤ x) × (x ≤ b))
between_test a x b = (
  λ e. let p = both (leb a x) (leb x b) e in (leb-true a x p.0, leb-true x b p.1),
  λ l. rw (le-leb a x l.0, le-leb x b l.1),
)

-- Test 10 tells, of a task number that there is, whether it is task 1 off a multiple of H.
time_test : (h task t : ℕ) → 1 ≤ task → (release_time h (task - 1) t ≡ false) ↔ ((task ≡ 1) × (t % h ≢ 0))
time_test h task t l = (
  λ e. (
    by_eq task 1 (task ≡ 1) (λ q. q) (λ n. absurd (not_both _ (says_time h (task - 1) t (λ z. absurd (n (omega arith)))) e)),
    λ z. not_both _ (says_time h (task - 1) t (λ q. z)) e,
  ),
  λ off. go (release_time h (task - 1) t) refl off,
)
  where
    go : (b : Bool) → release_time h (task - 1) t ≡ b → (task ≡ 1) × (t % h ≢ 0) → release_time h (task - 1) t ≡ false
    go true q off = absurd (off.1 (time_says h (task - 1) t q (omega (arith, off.0))))
    go false q off = q

-- Test 11 tells whether the task is still working.
working_test : (job : Job) → (working job ≡ true) ↔ ((a : ℕ) × (l : ℕ) × (job ≡ Working a l))
working_test Resting = (
  λ e. absurd (not_both false e refl),
  λ w. let q = w.2 in let z : ◌≡◌ {A = ℕ} 0 1 = cc in absurd (let y : ⊥ = omega arith in y),
)
working_test (Working a l) = (λ e. (a, l, refl), λ w. refl)

-- Test 12 tells whether the last release is fewer than so many ticks ago.
early_test : (last : Option ℕ) (period clock : ℕ) → (early last period clock ≡ true) ↔ ((a : ℕ) × (last ≡ Some a) × (clock < a + period))
early_test None period clock = (
  λ e. absurd (not_both false e refl),
  λ w. let q = w.1 in let z : ◌≡◌ {A = ℕ} 0 1 = cc in absurd (let y : ⊥ = omega arith in y),
)
early_test (Some p) period clock = (
  λ e. (p, refl, ltb-true clock (p + period) e),
  λ w. let q = w.1 in let same : p ≡ w.0 = cc in lt-ltb clock (p + period) (rw same w.2),
)

-- The refusals that apply to a release have the numbers 6 to 12.
release_known : (s : State) (task demand : ℕ) (q : Refusal) → ReleaseApplies s task demand q → (6 ≤ number q) × (number q < 13) × (due (number q) ≡ q)
release_known s task demand refusal.Length a = absurd a
release_known s task demand (refusal.Broken k) a = absurd a
release_known s task demand (refusal.Falling k) a = absurd a
release_known s task demand refusal.Sleep a = absurd a
release_known s task demand (refusal.NoWindow k rounds) a = absurd a
release_known s task demand refusal.Unfit a = (omega arith, omega arith, refl)
release_known s task demand refusal.ClockEnd a = (omega arith, omega arith, refl)
release_known s task demand refusal.NoTask a = (omega arith, omega arith, refl)
release_known s task demand refusal.Demand a = (omega arith, omega arith, refl)
release_known s task demand refusal.OffBoundary a = (omega arith, omega arith, refl)
release_known s task demand refusal.Working a = (omega arith, omega arith, refl)
release_known s task demand refusal.Early a = (omega arith, omega arith, refl)
release_known s task demand refusal.Power a = absurd a
release_known s task demand refusal.LongWaking a = absurd a

abbrev release_chain : (s : State) (task demand : ℕ) → Chain (ReleaseApplies s task demand) (Result (Unit {0}) Refusal)
release_chain s task demand = chain (ReleaseApplies s task demand) 13 (release_known s task demand)

-- A RELEASE'S ANSWER says which refusals apply: its tests stand in their order, and each is told by its fact.
release_says : (s : State) (task demand : ℕ) → Says (ReleaseApplies s task demand) (release_answer s task demand)
unfolding release_answer may_release ask_task ask_demand
release_says s task demand =
    let C = release_chain s task demand in
    let h = head_of s in
    let x = entry_in s (task - 1) in
    unless C refusal.Unfit refl (state_fits s) (may_release h x task demand) (fails _ _ (state_test s)) (first C) (λ e6 b6.
    when C refusal.ClockEnd refl (leb clock_end s.clock) (ask_task h x task demand) (end_test s.clock (fits_says s e6).in_time) b6 (λ e7 b7.
    unless C refusal.NoTask refl (leb 1 task && leb task s.n) (ask_demand h x task demand) (fails _ _ (between_test 1 task s.n)) b7 (λ e8 b8.
    unless C refusal.Demand refl (leb 1 demand && leb demand x.task.work) (ask_time h x task) (fails _ _ (between_test 1 demand x.task.work)) b8 (λ e9 b9.
    unless C refusal.OffBoundary refl (release_time s.sleep.period (task - 1) s.clock) (ask_spacing s.clock x)
    (time_test s.sleep.period task s.clock ((between_test 1 task s.n).0 e8).0) b9 (λ e10 b10.
    when C refusal.Working refl (working x.job) (cond (early x.last x.task.period s.clock) (Err refusal.Early) (Ok tt))
    (working_test x.job) b10 (λ e11 b11.
    when C refusal.Early refl (early x.last x.task.period s.clock) (Ok tt) (early_test x.last x.task.period s.clock) b11 (λ e12 b12.
    past C b12)))))))

-- A RELEASE IS REFUSED exactly with the lowest number that applies.
pub release_refused_exactly : (s : State) (task demand : ℕ) (r : Refusal) → ((release_of s task demand).answer ≡ Err r) ↔ Lowest (ReleaseApplies s task demand) r
release_refused_exactly s task demand r =
    rw (release_answer_lem s task demand)
    (refused_exactly (release_chain s task demand) (release_answer s task demand) (release_says s task demand) r)

-- A release is refused with 6 exactly where the state breaks a rule.
pub release_six_exactly : (s : State) (task demand : ℕ) → ((release_of s task demand).answer ≡ Err refusal.Unfit) ↔ (LawfulState s → ⊥)
release_six_exactly s task demand =
    let E = release_refused_exactly s task demand refusal.Unfit in
    (λ e. (E.0 e).applies, λ n. E.1 (record { applies = n; none_lower = first (release_chain s task demand) }))

-- A RELEASE IS ACCEPTED exactly where no refusal applies, which is where the rules hold.
pub release_accepted_exactly : (s : State) (task demand : ℕ) → ((release_of s task demand).answer ≡ Ok tt) ↔ Releasable s task demand
release_accepted_exactly s task demand = rw (release_answer_lem s task demand) (to, from)
  where
    to : release_answer s task demand ≡ Ok tt → Releasable s task demand
    to e =
        let F = accepted_says s task demand e in
        record {
          lawful_state = F.lawful_state;
          before_end = F.before_end;
          from_one = F.from_one;
          to_n = F.to_n;
          some = F.some;
          full = F.full;
          on_boundary = λ q. time_says s.sleep.period (task - 1) s.clock F.on_time (omega arith);
          resting = F.resting;
          spaced = F.spaced;
        }

    from : Releasable s task demand → release_answer s task demand ≡ Ok tt
    from F = says_accepted s task demand (record {
      lawful_state = F.lawful_state;
      before_end = F.before_end;
      from_one = F.from_one;
      to_n = F.to_n;
      some = F.some;
      full = F.full;
      on_time = says_time s.sleep.period (task - 1) s.clock (λ z. F.on_boundary (omega (arith, F.from_one)));
      resting = F.resting;
      spaced = F.spaced;
    })

-- The refusals that apply to a step have the numbers 6 and 7.
step_known : (s : State) (t : Tally) (q : Refusal) → StepApplies s t q → (6 ≤ number q) × (number q < 8) × (due (number q) ≡ q)
step_known s t refusal.Length a = absurd a
step_known s t (refusal.Broken k) a = absurd a
step_known s t (refusal.Falling k) a = absurd a
step_known s t refusal.Sleep a = absurd a
step_known s t (refusal.NoWindow k rounds) a = absurd a
step_known s t refusal.Unfit a = (omega arith, omega arith, refl)
step_known s t refusal.ClockEnd a = (omega arith, omega arith, refl)
step_known s t refusal.NoTask a = absurd a
step_known s t refusal.Demand a = absurd a
step_known s t refusal.OffBoundary a = absurd a
step_known s t refusal.Working a = absurd a
step_known s t refusal.Early a = absurd a
step_known s t refusal.Power a = absurd a
step_known s t refusal.LongWaking a = absurd a

abbrev step_chain : (s : State) (t : Tally) → Chain (StepApplies s t) (Result (Unit {0}) Refusal)
step_chain s t = chain (StepApplies s t) 8 (step_known s t)

-- The first test of a step tells whether state and tally keep their rules.
kept_test : (s : State) (t : Tally) → (state_fits s && tally_fits t s.clock ≡ true) ↔ RulesKept s t
kept_test s t = (
  λ e. let p = both (state_fits s) (tally_fits t s.clock) e in record { lawful_state = fits_says s p.0; counted = eqb-true _ _ p.1 },
  λ K. rw (says_fits s K.lawful_state) (eq-eqb _ _ K.counted),
)

step_says : (s : State) (t : Tally) → Says (StepApplies s t) (may_step (state_fits s) t s.clock)
step_says s t =
    let C = step_chain s t in
    unless C refusal.Unfit refl (state_fits s && tally_fits t s.clock) (cond (leb clock_end s.clock) (Err refusal.ClockEnd) (Ok tt))
    (fails _ _ (kept_test s t)) (first C) (λ e6 b6.
    when C refusal.ClockEnd refl (leb clock_end s.clock) (Ok tt) (end_test s.clock ((kept_test s t).0 e6).lawful_state.in_time) b6 (λ e7 b7.
    past C b7))

-- A STEP IS REFUSED exactly with the lowest number that applies.
pub step_refused_exactly : (s : State) (t : Tally) (r : Refusal) → ((step_of s t).answer ≡ Err r) ↔ Lowest (StepApplies s t) r
unfolding step_of
step_refused_exactly s t r = (λ e. may.0 (to (may_step (state_fits s) t s.clock) e), λ L. rw (may.1 L))
  where
    may : (may_step (state_fits s) t s.clock ≡ Err r) ↔ Lowest (StepApplies s t) r
    may = refused_exactly (step_chain s t) (may_step (state_fits s) t s.clock) (step_says s t) r

    to : (a : Result (Unit {0}) Refusal) → (step_from s t a).answer ≡ Err r → a ≡ Err r
    to (Ok tt) e = let z : ◌≡◌ {A = ℕ} 0 1 = cc in absurd (let y : ⊥ = omega arith in y)
    to (Err q) e = let same : q ≡ r = cc in ap Err same

-- A step is refused with 6 exactly where state or tally breaks a rule.
pub step_six_exactly : (s : State) (t : Tally) → ((step_of s t).answer ≡ Err refusal.Unfit) ↔ (RulesKept s t → ⊥)
step_six_exactly s t =
    let E = step_refused_exactly s t refusal.Unfit in
    (λ e. (E.0 e).applies, λ n. E.1 (record { applies = n; none_lower = first (step_chain s t) }))

-- A step is refused with 7 exactly where state and tally keep their rules and the clock stands at its end.
pub step_seven_exactly : (s : State) (t : Tally) → ((step_of s t).answer ≡ Err refusal.ClockEnd) ↔ (RulesKept s t × (s.clock ≡ clock_end))
step_seven_exactly s t = (
  λ e. (holds _ _ (kept_test s t) ((E.0 e).none_lower refusal.Unfit (omega arith)), (E.0 e).applies),
  λ k. E.1 (record {
    applies = k.1;
    none_lower = more (step_chain s t) refusal.Unfit refl (first (step_chain s t)) (λ n. n k.0);
  }),
)
  where
    E : ((step_of s t).answer ≡ Err refusal.ClockEnd) ↔ Lowest (StepApplies s t) refusal.ClockEnd
    E = step_refused_exactly s t refusal.ClockEnd

-- A STEP MAKES A TICK, its own, exactly where state and tally keep their rules and the clock is before its end.
pub step_ticks_exactly : (s : State) (t : Tally) (tick : Tick)
    → ((step_of s t).answer ≡ Ok tick) ↔ (RulesKept s t × (s.clock < clock_end) × (tick_of s ≡ tick))
step_ticks_exactly s t tick = (to (step_is s t), λ k. ap {A = Moved} (λ m. m.answer) (step_made s t k.0.lawful_state k.0.counted k.1) ∙ ap Ok k.2)
  where
    to : StepIs s t → (step_of s t).answer ≡ Ok tick → RulesKept s t × (s.clock < clock_end) × (tick_of s ≡ tick)
    to (moves m q) e =
        let w : Ok (tick_of s) ≡ Ok tick = sym (ap {A = Moved} (λ m. m.answer) q) ∙ e in
        let same : tick_of s ≡ tick = cc in
        (record { lawful_state = fits_says s m.fitting; counted = eqb-true _ _ m.counted }, m.before_end, same)
    to (stays r q) e =
        let w : Err r ≡ Ok tick = sym (ap {A = Moved} (λ m. m.answer) q) ∙ e in
        let z : ◌≡◌ {A = ℕ} 0 1 = cc in absurd (let y : ⊥ = omega arith in y)

-- A START IS ACCEPTED exactly where the table is sound and V is at most S.
pub start_accepted_exactly : (g : Given) → ((start_of g).answer ≡ Ok tt) ↔ ((n : ℕ) × Startable g n)
start_accepted_exactly g = (
  λ e. let r = started_reads g e in (r.0, given_startable g r.0 r.1),
  λ S. rw (startable_given g S.0 S.1),
)

-- A start is refused exactly with the lowest of 1 to 4 and 14 that applies.
pub start_refused_exactly : (g : Given) (r : Refusal) → ((start_of g).answer ≡ Err r) ↔ Lowest (StartApplies g) r
start_refused_exactly g r = (to (start_is g), λ L. from (start_is g) L L.applies)
  where
    to : StartIs g → (start_of g).answer ≡ Err r → Lowest (StartApplies g) r
    to (unsound f q w) e =
        let same : f ≡ r = cc (rw w at e) in
        let L = (reading_refused_exactly g.table r).0 (q ∙ ap Err same) in
        record {
          applies = inl L.applies;
          none_lower = λ p lower a. ⊎_elim (L.none_lower p lower) (λ u. omega (arith, ap number u.0, table_numbers g.table r L.applies)) a;
        }
    to (long n q l w) e =
        let same : refusal.LongWaking ≡ r = cc (rw w at e) in
        subst (Lowest (StartApplies g)) same (record {
          applies = inr (refl, l);
          none_lower = λ p lower a. ⊎_elim (sound_none_applies g.table n q p) (λ u. omega (arith, ap number u.0)) a;
        })
    to (starts n q l w) e = absurd (refused_not r (sym (rw w at e)))

    from : StartIs g → Lowest (StartApplies g) r → StartApplies g r → (start_of g).answer ≡ Err r
    from (unsound f q w) L (inl a) =
        let same = (reading_refused_exactly g.table r).1 (lowest_of_first L a) in
        let is : f ≡ r = cc in
        rw w (ap Err is)
    from (unsound f q w) L (inr u) =
        let F = (reading_refused_exactly g.table f).0 q in
        absurd (L.none_lower f (omega (arith, ap number u.0, table_numbers g.table f F.applies)) (inl F.applies))
    from (long n q l w) L (inl a) = absurd (sound_none_applies g.table n q r a)
    from (long n q l w) L (inr u) = rw w (ap Err (sym u.0))
    from (starts n q l w) L (inl a) = absurd (sound_none_applies g.table n q r a)
    from (starts n q l w) L (inr u) = absurd (let z : ⊥ = omega (arith, u.1) in z)

-- 14 IS GIVEN exactly where the table is sound and V is above S.
pub fourteen_exactly : (g : Given) → ((start_of g).answer ≡ Err refusal.LongWaking) ↔ (((n : ℕ) × SoundTable g.table n) × ((record_at g.table 0).work < g.waking))
fourteen_exactly g = (to (start_is g), from (start_is g))
  where
    to : StartIs g → (start_of g).answer ≡ Err refusal.LongWaking → ((n : ℕ) × SoundTable g.table n) × ((record_at g.table 0).work < g.waking)
    to (unsound f q w) e =
        let same : f ≡ refusal.LongWaking = cc (rw w at e) in
        let none : false ≡ true = rw same at (reading_gives_lem g.table f q) in
        absurd (not_both false none refl)
    to (long n q l w) e = ((n, read_sound g.table n q), l)
    to (starts n q l w) e = absurd (refused_not refusal.LongWaking (sym (rw w at e)))

    from : StartIs g → ((n : ℕ) × SoundTable g.table n) × ((record_at g.table 0).work < g.waking) → (start_of g).answer ≡ Err refusal.LongWaking
    from (unsound f q w) F = absurd (refused_not_sound f F.0.0 (sym q ∙ sound_read g.table F.0.0 F.0.1))
    from (long n q l w) F = rw w
    from (starts n q l w) F = absurd (let z : ⊥ = omega (arith, F.1) in z)

-- A REFUSED START hands back the state of no tasks.
pub start_refused : (g : Given) (r : Refusal) → (start_of g).answer ≡ Err r → (start_of g).state ≡ no_state
start_refused g r e = go (start_is g)
  where
    go : StartIs g → (start_of g).state ≡ no_state
    go (unsound f q w) = rw w
    go (long n q l w) = rw w
    go (starts n q l w) = absurd (refused_not r (sym (rw w at e)))

-- A start gives 1 to 4 and 14 and no other number.
pub start_gives_only : (g : Given) (r : Refusal) → (start_of g).answer ≡ Err r → start_gives r ≡ true
start_gives_only g r e = ⊎_elim
    (λ a. rw (reading_gives_lem g.table r ((reading_refused_exactly g.table r).1 (lowest_of_first L a))))
    (λ u. rw u.0)
    L.applies
  where
    L : Lowest (StartApplies g) r
    L = (start_refused_exactly g r).0 e

-- AN ACCEPTED START HANDS BACK THE TABLE and V, at clock 0, every task resting and never released, spare places after
-- them.
pub start_hands_back : (g : Given) (n : ℕ) → Startable g n → Fresh g n (start_of g).state
start_hands_back g n S =
    let e = startable_given g n S in
    let L = fresh_lawful g n e in
    rw e (record {
      tasks = refl;
      records = λ k l. fresh_record g n k S.sound.few l;
      waking_is = refl;
      clock_zero = refl;
      resting = λ i l. (fresh_rests g n i S.sound.few (omega (arith, S.sound.few))).0;
      never = λ i l. (fresh_rests g n i S.sound.few (omega (arith, S.sound.few))).1;
      spare = L.1.spare;
      room = L.0;
    })

-- No power is too strong where none is above its largest.
weak_powers : (ps : Powers) → ps.run ≤ power_most → ps.sleep ≤ power_most → ps.waking ≤ power_most → (power_most < ps.run) ⊎ (power_most < ps.sleep) ⊎ (power_most < ps.waking) → ⊥
weak_powers ps r s w (inl l) = omega arith
weak_powers ps r s w (inr (inl l)) = omega arith
weak_powers ps r s w (inr (inr l)) = omega arith

-- An energy reading goes one of three ways: refused with 6, refused with 13, or accepted.
data EnergyIs (t : Tally) (ps : Powers) : Type 0 where
  too_long : clock_end < total t → energy_of t ps ≡ Err refusal.Unfit → EnergyIs t ps
  too_strong : total t ≤ clock_end → (power_most < ps.run) ⊎ (power_most < ps.sleep) ⊎ (power_most < ps.waking) → energy_of t ps ≡ Err refusal.Power → EnergyIs t ps
  reads : total t ≤ clock_end → ps.run ≤ power_most → ps.sleep ≤ power_most → ps.waking ≤ power_most → energy_of t ps ≡ Ok (energy_in t ps) → EnergyIs t ps

energy_is : (t : Tally) (ps : Powers) → EnergyIs t ps
energy_is t ps = by_lt clock_end (total t) (EnergyIs t ps)
    (λ l. too_long l (rw (lt-ltb _ _ l)))
    (λ few. by_lt power_most ps.run (EnergyIs t ps)
    (λ l. too_strong few (inl l) (rw (le-ltb _ _ few, lt-ltb _ _ l)))
    (λ low. by_lt power_most ps.sleep (EnergyIs t ps)
    (λ l. too_strong few (inr (inl l)) (rw (le-ltb _ _ few, le-ltb _ _ low, lt-ltb _ _ l)))
    (λ weak. by_lt power_most ps.waking (EnergyIs t ps)
    (λ l. too_strong few (inr (inr l)) (rw (le-ltb _ _ few, le-ltb _ _ low, le-ltb _ _ weak, lt-ltb _ _ l)))
    (λ faint. reads few low weak faint (rw (le-ltb _ _ few, le-ltb _ _ low, le-ltb _ _ weak, le-ltb _ _ faint))))))

-- AN ENERGY READING IS REFUSED exactly with the lowest number that applies.
pub energy_refused_exactly : (t : Tally) (ps : Powers) (r : Refusal) → (energy_of t ps ≡ Err r) ↔ Lowest (EnergyApplies t ps) r
energy_refused_exactly t ps r = (to (energy_is t ps), λ L. from (energy_is t ps) L L.applies)
  where
    to : EnergyIs t ps → energy_of t ps ≡ Err r → Lowest (EnergyApplies t ps) r
    to (too_long l q) e =
        let w : Err refusal.Unfit ≡ Err r = sym q ∙ e in
        let same : refusal.Unfit ≡ r = cc in
        subst (Lowest (EnergyApplies t ps)) same (record {
          applies = inl (refl, l);
          none_lower = λ p lower a. ⊎_elim (λ u. omega (arith, ap number u.0)) (λ u. omega (arith, ap number u.0)) a;
        })
    to (too_strong few p q) e =
        let w : Err refusal.Power ≡ Err r = sym q ∙ e in
        let same : refusal.Power ≡ r = cc in
        subst (Lowest (EnergyApplies t ps)) same (record {
          applies = inr (refl, p);
          none_lower = λ p lower a. ⊎_elim (λ u. omega (arith, u.1)) (λ u. omega (arith, ap number u.0)) a;
        })
    to (reads few r s w q) e = let z : ◌≡◌ {A = ℕ} 0 1 = cc in absurd (let y : ⊥ = omega arith in y)

    from : EnergyIs t ps → Lowest (EnergyApplies t ps) r → EnergyApplies t ps r → energy_of t ps ≡ Err r
    from (too_long l q) L (inl u) = q ∙ ap Err (sym u.0)
    from (too_long l q) L (inr u) = absurd (L.none_lower refusal.Unfit (omega (arith, ap number u.0)) (inl (refl, l)))
    from (too_strong few p q) L (inl u) = absurd (let z : ⊥ = omega (arith, u.1) in z)
    from (too_strong few p q) L (inr u) = q ∙ ap Err (sym u.0)
    from (reads few low weak faint q) L (inl u) = absurd (let z : ⊥ = omega (arith, u.1) in z)
    from (reads few low weak faint q) L (inr u) = absurd (weak_powers ps low weak faint u.1)

-- AN ENERGY READING IS MADE exactly where neither 6 nor 13 applies, and is the energy of the tally.
pub energy_accepted_exactly : (t : Tally) (ps : Powers) (nanojoules : ℕ)
    → (energy_of t ps ≡ Ok nanojoules) ↔ ((total t ≤ clock_end) × (ps.run ≤ power_most) × (ps.sleep ≤ power_most) × (ps.waking ≤ power_most) × (nanojoules ≡ energy_in t ps))
energy_accepted_exactly t ps nanojoules = (to (energy_is t ps), from (energy_is t ps))
  where
    to : EnergyIs t ps → energy_of t ps ≡ Ok nanojoules
        → (total t ≤ clock_end) × (ps.run ≤ power_most) × (ps.sleep ≤ power_most) × (ps.waking ≤ power_most) × (nanojoules ≡ energy_in t ps)
    to (too_long l q) e = let z : ◌≡◌ {A = ℕ} 0 1 = cc in absurd (let y : ⊥ = omega arith in y)
    to (too_strong few p q) e = let z : ◌≡◌ {A = ℕ} 0 1 = cc in absurd (let y : ⊥ = omega arith in y)
    to (reads few r s w q) e = (few, r, s, w, cc)

    from : EnergyIs t ps → (total t ≤ clock_end) × (ps.run ≤ power_most) × (ps.sleep ≤ power_most) × (ps.waking ≤ power_most) × (nanojoules ≡ energy_in t ps)
        → energy_of t ps ≡ Ok nanojoules
    from (too_long l q) f = absurd (let z : ⊥ = omega (arith, f.0) in z)
    from (too_strong few p q) f = absurd (weak_powers ps f.1 f.2 f.3 p)
    from (reads few r s w q) f = q ∙ ap Ok (sym f.4)
