-- This file proves which refusals each call can give. (A start gives those of its reading.)
use Rattle.std.specs.Prelude.{Result, Ok, Err}
use Prim.Native.Nat.{ℕ, ◌-◌}
use mathlib.Core.Path.{◌≡◌, refl, ap, sym, ◌∙◌}
use mathlib.Core.Bool.{Bool, true, cond, ◌&&◌, ◌||◌}
use native.Mathlib.Omega.{arith}
use lib.Dec.{leb, ltb}
use Rattle.base.proofs.ChoiceLaws.{either}
use Rattle.table.specs.declared.Refusal.{Refusal}
use Rattle.table.specs.declared.Refusal.TheVariants as refusal
use Rattle.table.specs.Refusals.{release_gives, step_gives, energy_gives}
use Rattle.table.specs.Times.{release_time}
use Rattle.decisions.specs.declared.Entry.{Entry}
use Rattle.decisions.specs.declared.Head.{Head}
use Rattle.scheduler.specs.declared.State.{State}
use Rattle.decisions.specs.declared.Tally.{Tally}
use Rattle.decisions.specs.Fits.{clock_end, total, tally_fits}
use Rattle.scheduler.specs.States.{head_of, entry_in, state_fits}
use Rattle.decisions.specs.Asks.{working, early, ask_spacing, ask_time, ask_demand, ask_task, may_release, may_step}
use Rattle.scheduler.specs.Releases.{release_answer, release_of}
use Rattle.scheduler.specs.Steps.{tick_of, step_of}
use Rattle.decisions.specs.declared.Powers.{Powers}
use Rattle.decisions.specs.Energies.{power_most, energy_in, energy_of}
use Rattle.scheduler.proofs.ReleaseLaws.{release_answer_lem}

-- An answer is accepted, or refused with a refusal that the call gives.
abbrev Gives : (Refusal → Bool) → Result (Unit {0}) Refusal → Type 0
Gives gives (Ok tt) = Unit {0}
Gives gives (Err r) = gives r ≡ true

-- A refused answer's refusal is one that the call gives.
given_by : (gives : Refusal → Bool) (a : Result (Unit {0}) Refusal) (r : Refusal) → Gives gives a → a ≡ Err r → gives r ≡ true
given_by gives a r g e = rw e at g

-- A RELEASE gives no refusals but those of `release_gives`.
pub release_gives_lem : (s : State) (task demand : ℕ) (r : Refusal) → (release_of s task demand).answer ≡ Err r → release_gives r ≡ true
unfolding release_answer may_release ask_task ask_demand
release_gives_lem s task demand r e = given_by release_gives (release_answer s task demand) r tests (sym (release_answer_lem s task demand) ∙ e)
  where
    h : Head
    h = head_of s

    x : Entry
    x = entry_in s (task - 1)

    G : Result (Unit {0}) Refusal → Type 0
    G = Gives release_gives

    tests : G (release_answer s task demand)
    tests =
        either G (state_fits s) (may_release h x task demand) (Err refusal.Unfit)
        (either G (leb clock_end s.clock) (Err refusal.ClockEnd) (ask_task h x task demand) refl
        (either G (leb 1 task && leb task s.n) (ask_demand h x task demand) (Err refusal.NoTask)
        (either G (leb 1 demand && leb demand x.task.work) (ask_time h x task) (Err refusal.Demand)
        (either G (release_time s.sleep.period (task - 1) s.clock) (ask_spacing s.clock x) (Err refusal.OffBoundary)
        (either G (working x.job) (Err refusal.Working) (cond (early x.last x.task.period s.clock) (Err refusal.Early) (Ok tt)) refl
        (either G (early x.last x.task.period s.clock) (Err refusal.Early) (Ok tt) refl tt))
        refl)
        refl)
        refl))
        refl

-- A STEP gives no refusals but those of `step_gives`.
pub step_gives_lem : (s : State) (t : Tally) (r : Refusal) → (step_of s t).answer ≡ Err r → step_gives r ≡ true
unfolding step_of
step_gives_lem s t r e = go (may_step (state_fits s) t s.clock) refl
  where
    G : Result (Unit {0}) Refusal → Type 0
    G = Gives step_gives

    tests : G (may_step (state_fits s) t s.clock)
    tests =
        either G (state_fits s && tally_fits t s.clock) (cond (leb clock_end s.clock) (Err refusal.ClockEnd) (Ok tt)) (Err refusal.Unfit)
        (either G (leb clock_end s.clock) (Err refusal.ClockEnd) (Ok tt) refl tt)
        refl

    go : (a : Result (Unit {0}) Refusal) → may_step (state_fits s) t s.clock ≡ a → step_gives r ≡ true
    go (Ok tt) q =
        let w : Ok (tick_of s) ≡ Err r = rw q at e in
        let z : ◌≡◌ {A = ℕ} 0 1 = cc in absurd (let y : ⊥ = omega arith in y)
    go (Err f) q =
        let w : Err f ≡ Err r = rw q at e in
        let same : f ≡ r = cc in
        given_by step_gives (may_step (state_fits s) t s.clock) r tests (q ∙ ap Err same)

-- AN ENERGY READING gives no refusals but those of `energy_gives`.
pub energy_gives_lem : (t : Tally) (ps : Powers) (r : Refusal) → energy_of t ps ≡ Err r → energy_gives r ≡ true
energy_gives_lem t ps r e = rw e at tests
  where
    G : Result ℕ Refusal → Type 0
    G (Ok n) = Unit {0}
    G (Err q) = energy_gives q ≡ true

    strong : Bool
    strong = ltb power_most ps.run || ltb power_most ps.sleep || ltb power_most ps.waking

    tests : G (energy_of t ps)
    tests =
        either G (ltb clock_end (total t)) (Err refusal.Unfit) (cond strong (Err refusal.Power) (Ok (energy_in t ps))) refl
        (either G strong (Err refusal.Power) (Ok (energy_in t ps)) refl tt)
