-- The scheduler is a transition system over views: a view has a clock and, by task index from 0, a job and a last
-- release.
use Prim.Native.Nat.{ℕ, zero, suc, ◌+◌, ◌%◌, ◌≤◌, ◌<◌}
use mathlib.Core.Path.{◌≡◌}
use mathlib.Core.Logic.{◌≢◌}
use Rattle.theory.specs.Rules.{Rules, ready}

-- A task rests, or works on a job, of which the release tick and the work left are known.
pub data Job : Type 0 where
  resting : Job
  working : ℕ → ℕ → Job

-- A task was never released, or was released last at a tick.
pub data Last : Type 0 where
  never : Last
  at : ℕ → Last

-- A view is what the rules read of a state.
pub record View : Type 0 where
  pub clock : ℕ
  pub job : ℕ → Job
  pub last : ℕ → Last

-- The bounds need this of a set: room beside the sleep slot, work and periods of 1 or more, and no job that waits
-- longer for its boundary than the set says.
pub record Sound (R : Rules) : Type 0 where
  pub room : R.S < R.H
  pub work : (j : ℕ) → 1 ≤ R.C j
  pub period : (j : ℕ) → 1 ≤ R.T j
  pub waits : (j t : ℕ) → R.Ok j t → ready R.H t ≤ t + R.wait j

-- `left` is the work left of a job.
unfoldable pub left : Job → ℕ
left resting = 0
left (working a l) = l

-- `worked` is a job released at a with l left: the task rests where l is 0.
unfoldable pub worked : ℕ → ℕ → Job
worked a zero = resting
worked a (suc l) = working a (suc l)

-- A release at a, with this last release and this period, is not too early.
unfoldable pub Allowed : ℕ → Last → ℕ → Type 0
Allowed t never a = Unit {0}
Allowed t (at p) a = p + t ≤ a

-- Task j has no job that may run.
unfoldable pub Idle : Rules → View → ℕ → Type 0
Idle R v j = (a l : ℕ) → v.job j ≡ working a l → v.clock < ready R.H a

-- Task j is released with demand d.
pub record Released (R : Rules) (j d : ℕ) (v v' : View) : Type 0 where
  pub free : v.job j ≡ resting
  pub some : 1 ≤ d
  pub full : d ≤ R.C j
  pub ok : R.Ok j v.clock
  pub spaced : Allowed (R.T j) (v.last j) v.clock
  pub clock_same : v'.clock ≡ v.clock
  pub job_new : v'.job j ≡ working v.clock d
  pub last_new : v'.last j ≡ at v.clock
  pub jobs_same : (k : ℕ) → k ≢ j → v'.job k ≡ v.job k
  pub lasts_same : (k : ℕ) → k ≢ j → v'.last k ≡ v.last k

-- A slot tick moves the clock alone, within the sleep slot.
pub record Slotted (R : Rules) (v v' : View) : Type 0 where
  pub slot : v.clock % R.H < R.S
  pub clock_next : v'.clock ≡ suc v.clock
  pub jobs_same : (k : ℕ) → v'.job k ≡ v.job k
  pub lasts_same : (k : ℕ) → v'.last k ≡ v.last k

-- In this tick task j runs its job, released at a, of which l is left afterwards.
pub record Ran (R : Rules) (j a l : ℕ) (v v' : View) : Type 0 where
  pub no_slot : R.S ≤ v.clock % R.H
  pub was : v.job j ≡ working a (suc l)
  pub may : ready R.H a ≤ v.clock
  pub first : (k : ℕ) → k < j → Idle R v k
  pub clock_next : v'.clock ≡ suc v.clock
  pub job_new : v'.job j ≡ worked a l
  pub jobs_same : (k : ℕ) → k ≢ j → v'.job k ≡ v.job k
  pub lasts_same : (k : ℕ) → v'.last k ≡ v.last k

-- A tail tick moves the clock alone, outside the sleep slot, where no task may run.
pub record Tailed (R : Rules) (v v' : View) : Type 0 where
  pub no_slot : R.S ≤ v.clock % R.H
  pub idle : (k : ℕ) → Idle R v k
  pub clock_next : v'.clock ≡ suc v.clock
  pub jobs_same : (k : ℕ) → v'.job k ≡ v.job k
  pub lasts_same : (k : ℕ) → v'.last k ≡ v.last k

-- A tick is a slot tick, a run or a tail tick.
pub data Tick (R : Rules) (v v' : View) : Type 0 where
  slotted : Slotted R v v' → Tick R v v'
  ran : (j a l : ℕ) → Ran R j a l v v' → Tick R v v'
  tailed : Tailed R v v' → Tick R v v'

-- A move is a release or a tick.
pub data Move (R : Rules) (v v' : View) : Type 0 where
  released : (j d : ℕ) → Released R j d v v' → Move R v v'
  ticked : Tick R v v' → Move R v v'

-- A fresh view has clock 0, and every task rests and was never released.
pub record Fresh (v : View) : Type 0 where
  pub clock_zero : v.clock ≡ 0
  pub all_rest : (k : ℕ) → v.job k ≡ resting
  pub all_never : (k : ℕ) → v.last k ≡ never

-- These are the views that moves reach from a fresh one.
pub data Reach (R : Rules) : View → Type 0 where
  start : {v : View} → Fresh v → Reach R v
  move : {v v' : View} → Reach R v → Move R v v' → Reach R v'
