-- A step that answers a tick was a tick of the abstract scheduler, and a step that answers a run ran the first task
-- that may run.
use Rattle.std.specs.Prelude.{ℕ, zero, suc, ◌+◌, ◌-◌, ◌≤◌, ◌<◌, ◌≡◌, Ok, Err}
use Rattle.std.proofs.Common.{ap, sym, ◌∙◌, arith}
use Rattle.theory.proofs.System.{Ran, Tailed}
use Rattle.table.specs.declared.Record.{Record}
use Rattle.table.specs.Set.{rules_from}
use Rattle.decisions.specs.declared.Job.TheVariants.{Working}
use Rattle.scheduler.specs.declared.State.{State}
use Rattle.decisions.specs.declared.Tally.{Tally}
use Rattle.decisions.specs.declared.Tick.{Tick}
use Rattle.decisions.specs.declared.Tick.TheVariants.{Run, Slot, Tail}
use Rattle.scheduler.specs.declared.Moved.{Moved}
use Rattle.decisions.specs.Fits.{clock_end}
use Rattle.scheduler.specs.States.{head_of, entry_in}
use Rattle.scheduler.specs.Lawful.{LawfulState}
use Rattle.scheduler.specs.Steps.{first_ready, tick_of, after_run, after_tick, step_of}
use Rattle.scheduler.proofs.StateLaws.{fits_says}
use Rattle.scheduler.proofs.PlaceLaws.{Sized}
use Rattle.scheduler.proofs.TickLaws.{TickIs, slots, runs, tails, tick_is}
use Rattle.scheduler.proofs.StepLaws.{StepIs, moves, stays, step_is}
use Rattle.bridge.specs.Views.{view_of, Holds}
use Rattle.bridge.specs.Moves.{May, runner, tick_tailed, tick_ran}

-- A step that answers a tick found a state that keeps its rules, before the clock's end, and made that tick.
pub record Made (s : State) (t : Tally) (tick : Tick) : Type 0 where
  pub lawful_state : LawfulState s
  pub before_end : s.clock < clock_end
  pub is : tick_of s ≡ tick
  pub to : (step_of s t).state ≡ after_tick s tick

pub made_tick : (s : State) (t : Tally) (tick : Tick) → (step_of s t).answer ≡ Ok tick → Made s t tick
made_tick s t tick e = go (step_is s t)
  where
    go : StepIs s t → Made s t tick
    go (stays r q) =
        let w : Err r ≡ Ok tick = sym (ap {A = Moved} (λ m. m.answer) q) ∙ e in
        let z : ◌≡◌ {A = ℕ} 0 1 = cc in absurd (let y : ⊥ = omega arith in y)
    go (moves m q) =
        let w : Ok (tick_of s) ≡ Ok tick = sym (ap {A = Moved} (λ m. m.answer) q) ∙ e in
        let same : tick_of s ≡ tick = cc in
        record { lawful_state = fits_says s m.fitting; before_end = m.before_end; is = same; to = rw (← same) (ap {A = Moved} (λ x. x.state) q) }

-- A RUN names the first task that may run, and leaves it one unit less.
pub record RunIs (set : ℕ → Record) (n : ℕ) (s : State) (t : Tally) (k : ℕ) : Type 0 where
  pub numbered : k ≡ first_ready s + 1
  pub a_task : first_ready s < s.n
  pub a : ℕ
  pub l : ℕ
  pub was : (entry_in s (first_ready s)).job ≡ Working a (suc l)
  pub ran : Ran (rules_from set n) (first_ready s) a l (view_of s) (view_of (step_of s t).state)

pub run_is : (set : ℕ → Record) (n : ℕ) (s : State) (t : Tally) (k : ℕ) → Sized s → Holds set n s → (step_of s t).answer ≡ Ok (Run k) → RunIs set n s t k
run_is set n s t k size H e = go (tick_is s)
  where
    M : Made s t (Run k)
    M = made_tick s t (Run k) e

    go : TickIs s → RunIs set n s t k
    go (slots a q) = let w : Slot ≡ Run k = sym q ∙ M.is in let z : ◌≡◌ {A = ℕ} 0 1 = cc in absurd (let y : ⊥ = omega arith in y)
    go (tails a b q) = let w : Tail ≡ Run k = sym q ∙ M.is in let z : ◌≡◌ {A = ℕ} 0 1 = cc in absurd (let y : ⊥ = omega arith in y)
    go (runs a b q) = by_left m.a m.l m.is ((M.lawful_state.task (first_ready s) b).job_fits m.a m.l m.is).0
      where
        m : May (head_of s) (entry_in s (first_ready s)).job
        m = runner s b

        named : k ≡ first_ready s + 1
        named = let w : Run (first_ready s + 1) ≡ Run k = sym q ∙ M.is in cc

        to : (step_of s t).state ≡ after_run s (first_ready s)
        to =
            let same : first_ready s + 1 - 1 ≡ first_ready s = omega arith in
            M.to ∙ rw (named, same)

        by_left : (x l : ℕ) → (entry_in s (first_ready s)).job ≡ Working x l → 1 ≤ l → RunIs set n s t k
        by_left x zero is some = absurd (let z : ⊥ = omega arith in z)
        by_left x (suc l) is some = record {
          numbered = named;
          a_task = b;
          a = x;
          l = l;
          was = is;
          ran = rw to (tick_ran set n s x l H size M.lawful_state M.before_end a b is);
        }

-- A TAIL TICK finds no job that may run.
pub tail_is : (set : ℕ → Record) (n : ℕ) (s : State) (t : Tally) → Sized s → Holds set n s → (step_of s t).answer ≡ Ok Tail
    → Tailed (rules_from set n) (view_of s) (view_of (step_of s t).state)
tail_is set n s t size H e = go (tick_is s)
  where
    M : Made s t Tail
    M = made_tick s t Tail e

    go : TickIs s → Tailed (rules_from set n) (view_of s) (view_of (step_of s t).state)
    go (slots a q) = let w : Slot ≡ Tail = sym q ∙ M.is in let z : ◌≡◌ {A = ℕ} 0 1 = cc in absurd (let y : ⊥ = omega arith in y)
    go (runs a b q) = let w : Run (first_ready s + 1) ≡ Tail = sym q ∙ M.is in let z : ◌≡◌ {A = ℕ} 0 1 = cc in absurd (let y : ⊥ = omega arith in y)
    go (tails a b q) = rw M.to (tick_tailed set n s H size M.lawful_state a b)
