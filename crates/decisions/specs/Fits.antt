-- The rules that are checked for refusal 6 (RULES 4 and 8.2) are defined here, of a state's head, of one place and of a
-- tally.
use Rattle.std.specs.Prelude.{ℕ, ◌+◌, Bool, true, false, cond, ◌&&◌, leb, ltb, eqb, Option, Some, None}
use Rattle.table.specs.declared.Record.{Record}
use Rattle.table.specs.Bytes.{no_record}
use Rattle.table.specs.Sound.{places, record_fits, sleep_fits}
use Rattle.table.specs.Times.{release_time}
use Rattle.decisions.specs.declared.Job.{Job}
use Rattle.decisions.specs.declared.Job.TheVariants.{Resting, Working}
use Rattle.decisions.specs.declared.Entry.{Entry}
use Rattle.decisions.specs.declared.Head.{Head}
use Rattle.decisions.specs.declared.Tally.{Tally}

-- `clock_end` is the last clock.
abbrev pub clock_end : ℕ
clock_end = 1000000000

-- A spare place holds a record of zeros, rests and was never released.
abbrev pub no_entry : Entry
no_entry = record { task = no_record; job = Resting; last = None }

-- `zeroed` tells whether a record is one of zeros.
abbrev pub zeroed : Record → Bool
zeroed r = eqb r.label 0 && eqb r.work 0 && eqb r.period 0 && eqb r.reserved 0

-- A last release keeps its rules: it is not after the clock, and the task at place i may be released at that tick.
abbrev pub last_fits : Head → ℕ → Option ℕ → Bool
last_fits head i None = true
last_fits head i (Some a) = leb a head.clock && release_time head.sleep.period i a

-- `last_is` tells whether a last release is at tick a.
abbrev pub last_is : Option ℕ → ℕ → Bool
last_is None a = false
last_is (Some p) a = eqb p a

-- A job keeps its rules: the work left is 1 to C, and a working task's release tick is its last release.
abbrev pub job_fits : ℕ → Option ℕ → Job → Bool
job_fits c last Resting = true
job_fits c last (Working a l) = leb 1 l && leb l c && last_is last a

-- The entry of the task at place i, after a task of period `above` (0 where it is the first), keeps its rules: the
-- table rules hold of its record, and their own rules of its job and its last release.
abbrev pub task_fits : Head → ℕ → ℕ → Entry → Bool
task_fits head i above e =
    record_fits e.task && leb above e.task.period && last_fits head i e.last && job_fits e.task.work e.last e.job

-- A spare place holds a record of zeros, rests and reads never.
abbrev pub rests_never : Job → Option ℕ → Bool
rests_never Resting None = true
rests_never Resting (Some a) = false
rests_never (Working a l) last = false

abbrev pub spare_fits : Entry → Bool
spare_fits e = zeroed e.task && rests_never e.job e.last

-- `place_fits` tests a place, which is a task's or a spare one.
abbrev pub place_fits : Head → ℕ → ℕ → Entry → Bool
place_fits head i above e = cond (ltb i head.n) (task_fits head i above e) (spare_fits e)

-- A waking length V keeps its rule where it is at most S.
abbrev pub waking_fits : ℕ → Record → Bool
waking_fits waking sleep = leb waking sleep.work

-- The head keeps its rules: n is from 1 to 16, the clock at most its end, the table rules hold of the sleep record
-- beside the first task, and V is at most S.
abbrev pub head_fits : Head → Record → Bool
head_fits head first =
    leb 1 head.n && leb head.n places && leb head.clock clock_end && record_fits head.sleep && sleep_fits head.sleep first
    && waking_fits head.waking head.sleep

-- `no_ticks` is a tally before the first tick.
abbrev pub no_ticks : Tally
no_ticks = record { run = 0; slot = 0; tail = 0; waking = 0 }

-- `total` counts all the ticks of a tally.
abbrev pub total : Tally → ℕ
total t = t.run + t.slot + t.tail + t.waking

-- A tally keeps its rule where its counts sum to the clock.
abbrev pub tally_fits : Tally → ℕ → Bool
tally_fits t clock = eqb (total t) clock
