-- RULES 7, "One tick", is defined here: a tick is slot, run or tail.
use Rattle.std.specs.Prelude.{ℕ, ◌+◌, ◌-◌, ◌≤◌, ◌<◌, cond, Result, Ok, Err}
use Rattle.base.specs.First.{first_from}
use Rattle.table.specs.declared.Refusal.{Refusal}
use Rattle.scheduler.specs.declared.State.{State}
use Rattle.decisions.specs.declared.Tally.{Tally}
use Rattle.decisions.specs.declared.Count.{Count}
use Rattle.decisions.specs.declared.Count.TheVariants.{Runs, Slots, Tails, Wakings}
use Rattle.decisions.specs.declared.Tick.{Tick}
use Rattle.decisions.specs.declared.Tick.TheVariants.{Run, Slot, Tail}
use Rattle.scheduler.specs.declared.Moved.{Moved}
use Rattle.decisions.specs.Fits.{clock_end}
use Rattle.decisions.specs.Asks.{may_step}
use Rattle.decisions.specs.Ticks.{in_slot, may_run, run_or_tail, worked_of, count_of}
use Rattle.scheduler.specs.States.{head_of, entry_in, with_entry, aged, state_fits}

-- `first_ready` is the place of the lowest-numbered working task whose job may run; it is n where there is none.
abbrev pub first_ready : State → ℕ
first_ready s = first_from (λ i. may_run (head_of s) (entry_in s i).job) s.n 0

-- `tick_of` says what the tick is.
abbrev pub tick_of : State → Tick
tick_of s = cond (in_slot (head_of s)) Slot (run_or_tail s.n (first_ready s))

-- `after_run` is the state after a run of the task at place i.
abbrev pub after_run : State → ℕ → State
after_run s i = aged (with_entry s i (worked_of (entry_in s i)))

-- `after_tick` is the state after a tick.
abbrev pub after_tick : State → Tick → State
after_tick s (Run k) = after_run s (k - 1)
after_tick s Slot = aged s
after_tick s Tail = aged s

-- `raised` is the tally with one count up by one.
abbrev pub raised : Tally → Count → Tally
raised t Runs = record { run = t.run + 1; slot = t.slot; tail = t.tail; waking = t.waking }
raised t Slots = record { run = t.run; slot = t.slot + 1; tail = t.tail; waking = t.waking }
raised t Tails = record { run = t.run; slot = t.slot; tail = t.tail + 1; waking = t.waking }
raised t Wakings = record { run = t.run; slot = t.slot; tail = t.tail; waking = t.waking + 1 }

-- `made` is what a step gives for the tick that it makes.
abbrev pub made : State → Tally → Tick → Moved
made s t tick = record { answer = Ok tick; tally = raised t (count_of (head_of s) tick); state = after_tick s tick }

-- A step that is refused leaves state and tally unchanged.
abbrev pub unmoved : State → Tally → Refusal → Moved
unmoved s t r = record { answer = Err r; tally = t; state = s }

-- `step_from` is what the answer of `may_step` makes of the step.
abbrev pub step_from : State → Tally → Result (Unit {0}) Refusal → Moved
step_from s t (Ok tt) = made s t (tick_of s)
step_from s t (Err r) = unmoved s t r

-- A STEP is defined on any state with any tally.
unfoldable pub step_of : State → Tally → Moved
step_of s t = step_from s t (may_step (state_fits s) t s.clock)

-- `Ready` is what a tick asks of a state; it holds where the rules hold and the clock is not at its end.
pub record Ready (s : State) : Type 0 where
  pub some : 1 ≤ s.sleep.period
  pub few : s.n ≤ 16
  pub before : s.clock < clock_end
