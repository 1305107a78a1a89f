-- Histories are lists of calls on a node, refused ones among them; this file says what they make of a start. A history
-- has a tally of its own, zeros first, that a step brings up to date; a step may lend another one instead.
use Rattle.std.specs.Prelude.{ℕ, ◌+◌, ◌-◌, ◌≤◌, ◌≡◌, List, [], ◌∷◌, cond, leb, Result, Ok, Err}
use Rattle.base.specs.Sum.{plus_at}
use Rattle.base.specs.Fold.{folded}
use Rattle.table.specs.declared.Refusal.{Refusal}
use Rattle.decisions.specs.declared.Tick.{Tick}
use Rattle.decisions.specs.declared.Job.{Job}
use Rattle.decisions.specs.declared.Job.TheVariants.{Resting, Working}
use Rattle.scheduler.specs.declared.State.{State}
use Rattle.decisions.specs.declared.Tally.{Tally}
use Rattle.decisions.specs.declared.Tick.TheVariants.{Run, Slot, Tail}
use Rattle.decisions.specs.Fits.{no_ticks}
use Rattle.scheduler.specs.States.{entry_in}
use Rattle.scheduler.specs.Starts.{Given, start_of}
use Rattle.scheduler.specs.Releases.{release_of}
use Rattle.scheduler.specs.Steps.{step_of}

-- A call is a release with any task number and any demand, a step that lends the history's own tally, or a step that
-- lends another one, right or wrong.
pub data Call : Type 0 where
  release : ℕ → ℕ → Call
  step : Call
  lend : Tally → Call

-- `Own` says that a call lends no other tally than the history's own.
abbrev pub Own : Call → Type 0
Own (release task demand) = Unit {0}
Own step = Unit {0}
Own (lend t) = ⊥

-- An accepted release is noted by the task's place, the clock and the demand.
pub record Taken : Type 0 where
  pub place : ℕ
  pub at : ℕ
  pub demand : ℕ

-- A finish is a job that ran its last unit: the task's place, its release tick and the clock after its last tick.
pub record Finish : Type 0 where
  pub place : ℕ
  pub release : ℕ
  pub at : ℕ

-- A past is what calls have made: the state and the tally; by place, the sum of the accepted demands and the ticks run;
-- how many calls were refused; and the accepted releases and the finishes, the latest first.
pub record Past : Type 0 where
  pub state : State
  pub tally : Tally
  pub demands : ℕ → ℕ
  pub runs : ℕ → ℕ
  pub refusals : ℕ
  pub taken : List Taken
  pub finishes : List Finish

-- An accepted release adds its demand to the sum at its task's place.
abbrev pub demanded : ℕ → ℕ → (ℕ → ℕ) → Result (Unit {0}) Refusal → ℕ → ℕ
demanded task demand f (Ok tt) = plus_at (task - 1) demand f
demanded task demand f (Err r) = f

-- A run adds one to the ticks run at its task's place.
abbrev pub ran : (ℕ → ℕ) → Result Tick Refusal → ℕ → ℕ
ran f (Ok (Run k)) = plus_at (k - 1) 1 f
ran f (Ok Slot) = f
ran f (Ok Tail) = f
ran f (Err r) = f

-- A refused call counts one refusal, whether it is a release or a step.
abbrev pub refused_release : Result (Unit {0}) Refusal → ℕ
refused_release (Ok tt) = 0
refused_release (Err r) = 1

abbrev pub refused_step : Result Tick Refusal → ℕ
refused_step (Ok t) = 0
refused_step (Err r) = 1

-- An accepted release is noted in the list.
abbrev pub noted : Taken → List Taken → Result (Unit {0}) Refusal → List Taken
noted this list (Ok tt) = this ∷ list
noted this list (Err r) = list

-- A run of a job's last unit is noted as a finish.
abbrev pub ended : ℕ → ℕ → List Finish → Job → List Finish
ended place clock list Resting = list
ended place clock list (Working a l) = cond (leb l 1) (record { place = place; release = a; at = clock } ∷ list) list

abbrev pub finished : State → List Finish → Result Tick Refusal → List Finish
finished s list (Ok (Run k)) = ended (k - 1) (s.clock + 1) list (entry_in s (k - 1)).job
finished s list (Ok Slot) = list
finished s list (Ok Tail) = list
finished s list (Err r) = list

-- `stepped` is what a step that lends t leaves, `own` being the history's own tally after it.
abbrev pub stepped : Past → Tally → Tally → Past
stepped p t own = record {
  state = (step_of p.state t).state;
  tally = own;
  demands = p.demands;
  runs = ran p.runs (step_of p.state t).answer;
  refusals = p.refusals + refused_step (step_of p.state t).answer;
  taken = p.taken;
  finishes = finished p.state p.finishes (step_of p.state t).answer;
}

-- `next` is what one call more makes of a past.
unfoldable pub next : Past → Call → Past
next p (release task demand) = record {
  state = (release_of p.state task demand).state;
  tally = p.tally;
  demands = demanded task demand p.demands (release_of p.state task demand).answer;
  runs = p.runs;
  refusals = p.refusals + refused_release (release_of p.state task demand).answer;
  taken = noted (record { place = task - 1; at = p.state.clock; demand = demand }) p.taken (release_of p.state task demand).answer;
  finishes = p.finishes;
}
next p step = stepped p p.tally (step_of p.state p.tally).tally
next p (lend t) = stepped p t p.tally

-- `after` is what a list of calls, one after the other, makes of a past.
abbrev pub after : Past → List Call → Past
after p calls = folded next p calls

-- `begun` is the past of a state before any call, with a tally of zeros beside it.
abbrev pub begun : State → Past
begun s = record { state = s; tally = no_ticks; demands = λ i. 0; runs = λ i. 0; refusals = 0; taken = []; finishes = [] }

-- A HISTORY is what a list of calls makes of a start.
abbrev pub history : Given → List Call → Past
history g calls = after (begun (start_of g).state) calls

-- `work_left` is the work left of a job, 0 for a task at rest.
abbrev pub work_left : Job → ℕ
work_left Resting = 0
work_left (Working a l) = l

-- `left_in` is the work left at a place.
abbrev pub left_in : State → ℕ → ℕ
left_in s i = work_left (entry_in s i).job

-- After calls none of which was refused, at clock t, the task at place i is at work on a job released at a.
pub record AtWork (p : Past) (i a t : ℕ) : Type 0 where
  pub none_refused : p.refusals ≡ 0
  pub clock_is : p.state.clock ≡ t
  pub left : ℕ
  pub some : 1 ≤ left
  pub working : (entry_in p.state i).job ≡ Working a left
