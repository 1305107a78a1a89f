-- What a tick is made of is defined here (RULES 7): the slot, which job may run, what a run leaves and which count is
-- raised.
use Rattle.std.specs.Prelude.{ℕ, ◌+◌, ◌-◌, ◌%◌, Bool, false, cond, leb, ltb}
use Rattle.base.specs.First.{first_from}
use Rattle.theory.specs.Rules.{ready}
use Rattle.decisions.specs.declared.Job.{Job}
use Rattle.decisions.specs.declared.Job.TheVariants.{Resting, Working}
use Rattle.decisions.specs.declared.Entry.{Entry}
use Rattle.decisions.specs.declared.Head.{Head}
use Rattle.decisions.specs.declared.Count.{Count}
use Rattle.decisions.specs.declared.Count.TheVariants.{Runs, Slots, Tails, Wakings}
use Rattle.decisions.specs.declared.Tick.{Tick}
use Rattle.decisions.specs.declared.Tick.TheVariants.{Run, Slot, Tail}

-- `since_boundary` is t mod H, the ticks since the last boundary.
abbrev pub since_boundary : Head → ℕ
since_boundary head = head.clock % head.sleep.period

-- `last_boundary` is the last boundary at or before the clock.
abbrev pub last_boundary : Head → ℕ
last_boundary head = head.clock - since_boundary head

-- The clock stands in a sleep slot where t mod H is below S.
abbrev pub in_slot : Head → Bool
in_slot head = ltb (since_boundary head) head.sleep.work

-- A job may run from the smallest multiple of H that is at least its release.
abbrev pub may_run : Head → Job → Bool
may_run head Resting = false
may_run head (Working a l) = leb (ready head.sleep.period a) head.clock

-- A task works on a job that was released at or before a tick: at the last boundary, that is a job that may run
-- (`came_may_run`, proofs/ReadyLaws.antt), found with one division for all tasks.
abbrev pub came : ℕ → Job → Bool
came tick Resting = false
came tick (Working a l) = leb a tick

-- A tick outside the slot, i being the place of the first of n tasks that may run, is a run of it or a tail tick.
abbrev pub run_or_tail : ℕ → ℕ → Tick
run_or_tail n i = cond (ltb i n) (Run (i + 1)) Tail

-- `first_come` is the place of the first of n tasks, their entries being given by place, whose job had come by a tick; it
-- is n where there is none.
abbrev pub first_come : (ℕ → Entry) → ℕ → ℕ → ℕ
first_come entry n tick = first_from (λ i. came tick (entry i).job) n 0

-- `next_tick` is what the next tick is: a slot tick in the slot, else a run of the first task whose job had come by the
-- last boundary, or a tail tick. In a state that keeps its rules this is the tick of RULES 7 (`tick_is_next` of scheduler).
abbrev pub next_tick : Head → (ℕ → Entry) → Tick
next_tick head entry = cond (in_slot head) Slot (run_or_tail head.n (first_come entry head.n (last_boundary head)))

-- A run takes one unit off the work left, and at zero the task rests.
abbrev pub worked_job : Job → Job
worked_job Resting = Resting
worked_job (Working a l) = cond (leb l 1) Resting (Working a (l - 1))

abbrev pub worked_of : Entry → Entry
worked_of e = record { task = e.task; job = worked_job e.job; last = e.last }

-- A slot tick is a waking one where t mod H is at least S − V: it is one of the last V of its slot.
abbrev pub wakes : Head → Bool
wakes head = leb (head.sleep.work - head.waking) (since_boundary head)

-- A tick raises the count of its kind, a slot tick that of the waking ticks where it is one.
abbrev pub count_of : Head → Tick → Count
count_of head (Run k) = Runs
count_of head Slot = cond (wakes head) Wakings Slots
count_of head Tail = Tails
