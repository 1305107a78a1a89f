-- A step makes its tick, or is refused with 6 or 7 and moves nothing.
use Rattle.std.specs.Prelude.{Result, Ok, Err}
use Prim.Native.Nat.{ℕ, ◌<◌}
use mathlib.Core.Path.{◌≡◌, refl, ap, sym, ◌∙◌}
use mathlib.Core.Bool.{Bool, true, cond, ◌&&◌, and-eq-true_iff}
use native.Mathlib.Omega.{arith}
use lib.Dec.{leb}
use borrow.Author.Tests.{leb-false, eq-eqb, lt-leb}
use Rattle.base.proofs.ChoiceLaws.{chosen, passed}
use Rattle.table.specs.declared.Refusal.{Refusal}
use Rattle.table.specs.declared.Refusal.TheVariants as refusal
use Rattle.scheduler.specs.declared.State.{State}
use Rattle.decisions.specs.declared.Tally.{Tally}
use Rattle.scheduler.specs.declared.Moved.{Moved}
use Rattle.decisions.specs.Fits.{clock_end, total, tally_fits}
use Rattle.scheduler.specs.States.{state_fits}
use Rattle.scheduler.specs.Lawful.{LawfulState}
use Rattle.decisions.specs.Asks.{may_step}
use Rattle.scheduler.specs.Steps.{tick_of, made, unmoved, step_of}
use Rattle.scheduler.proofs.StateLaws.{says_fits}
use Rattle.scheduler.proofs.ReleaseLaws.{refused_not}

-- `MayStep` is what is known where a step may be made.
pub record MayStep (fits : Bool) (t : Tally) (clock : ℕ) : Type 0 where
  pub fitting : fits ≡ true
  pub counted : tally_fits t clock ≡ true
  pub before_end : clock < clock_end

pub may_step_says : (fits : Bool) (t : Tally) (clock : ℕ) → may_step fits t clock ≡ Ok tt → MayStep fits t clock
may_step_says fits t clock e =
    let a = chosen (fits && tally_fits t clock) (cond (leb clock_end clock) (Err refusal.ClockEnd) (Ok tt)) (Err refusal.Unfit) (Ok tt) (refused_not _) e in
    let b = passed (leb clock_end clock) (Err refusal.ClockEnd) (Ok tt) (Ok tt) (refused_not _) a.1 in
    let c = (and-eq-true_iff fits (tally_fits t clock)).0 a.0 in
    record { fitting = c.0; counted = c.1; before_end = leb-false _ _ b.0 }

-- A step goes one of two ways: it makes its tick, or it moves nothing.
pub data StepIs (s : State) (t : Tally) : Type 0 where
  moves : MayStep (state_fits s) t s.clock → step_of s t ≡ made s t (tick_of s) → StepIs s t
  stays : (r : Refusal) → step_of s t ≡ unmoved s t r → StepIs s t

pub step_is : (s : State) (t : Tally) → StepIs s t
unfolding step_of
step_is s t = go (may_step (state_fits s) t s.clock) refl
  where
    go : (a : Result (Unit {0}) Refusal) → may_step (state_fits s) t s.clock ≡ a → StepIs s t
    go (Ok tt) q = moves (may_step_says (state_fits s) t s.clock q) (rw q)
    go (Err r) q = stays r (rw q)

-- A step on a state that keeps its rules, with a tally that sums to its clock, before the end, makes its tick.
pub step_made : (s : State) (t : Tally) → LawfulState s → total t ≡ s.clock → s.clock < clock_end → step_of s t ≡ made s t (tick_of s)
unfolding step_of
step_made s t L c l = rw (says_fits s L, eq-eqb _ _ c, lt-leb _ _ l)

-- A REFUSED STEP HANDS BACK THE VERY STATE AND TALLY.
pub step_refused : (s : State) (t : Tally) (r : Refusal) → (step_of s t).answer ≡ Err r → ((step_of s t).state ≡ s) × ((step_of s t).tally ≡ t)
step_refused s t r e = go (step_is s t)
  where
    go : StepIs s t → ((step_of s t).state ≡ s) × ((step_of s t).tally ≡ t)
    go (moves m q) =
        let w : Ok (tick_of s) ≡ Err r = sym (ap {A = Moved} (λ m. m.answer) q) ∙ e in
        let z : ◌≡◌ {A = ℕ} 0 1 = cc in absurd (let y : ⊥ = omega arith in y)
    go (stays f q) = (ap {A = Moved} (λ m. m.state) q, ap {A = Moved} (λ m. m.tally) q)
