-- A state is a view of the abstract scheduler: it has its clock and, by place, its jobs and last releases.
use Rattle.std.specs.Prelude.{ℕ, ◌+◌, ◌<◌, ◌≡◌, refl, Option, Some, None}
use Rattle.std.proofs.Common.{sym, arith}
use Rattle.theory.proofs.System as theory
use Rattle.table.specs.declared.Record.{Record}
use Rattle.table.specs.Set.{rules_from}
use Rattle.table.proofs.SetLaws.{work_is, period_is}
use Rattle.decisions.specs.declared.Job.{Job}
use Rattle.decisions.specs.declared.Job.TheVariants.{Resting, Working}
use Rattle.scheduler.specs.declared.State.{State}
use Rattle.scheduler.specs.States.{entry_in, record_in}
use Rattle.scheduler.proofs.StateLaws.{record_of}

-- A job and a last release of a state are a job and a last release of the theory.
abbrev pub job_view : Job → theory.Job
job_view Resting = theory.resting
job_view (Working a l) = theory.working a l

abbrev pub last_view : Option ℕ → theory.Last
last_view None = theory.never
last_view (Some a) = theory.at a

-- A state is the view of its clock and, by place, of its jobs and last releases.
abbrev pub view_of : State → theory.View
view_of s = record { clock = s.clock; job = λ i. job_view (entry_in s i).job; last = λ i. last_view (entry_in s i).last }

-- A view says of the job and the last release under it what they are.
pub job_back : (job : Job) (a l : ℕ) → job_view job ≡ theory.working a l → job ≡ Working a l
job_back Resting a l e = let z : ◌≡◌ {A = ℕ} 0 1 = cc in absurd (let y : ⊥ = omega arith in y)
job_back (Working b m) a l e = let ab : b ≡ a = cc in let ml : m ≡ l = cc in rw (ab, ml)

pub rest_back : (job : Job) → job_view job ≡ theory.resting → job ≡ Resting
rest_back Resting e = refl
rest_back (Working b m) e = let z : ◌≡◌ {A = ℕ} 0 1 = cc in absurd (let y : ⊥ = omega arith in y)

pub last_back : (last : Option ℕ) (a : ℕ) → last_view last ≡ theory.at a → last ≡ Some a
last_back None a e = let z : ◌≡◌ {A = ℕ} 0 1 = cc in absurd (let y : ⊥ = omega arith in y)
last_back (Some p) a e = let pa : p ≡ a = cc in rw pa

-- The state holds the records of a set of n tasks.
pub record Holds (set : ℕ → Record) (n : ℕ) (s : State) : Type 0 where
  pub n_is : s.n ≡ n
  pub sleep_is : s.sleep ≡ set 0
  pub task_is : (i : ℕ) → i < n → (entry_in s i).task ≡ set (i + 1)

-- Every state holds its own records.
pub holds_own : (s : State) → Holds (record_in s) s.n s
unfolding record_in
holds_own s = record { n_is = refl; sleep_is = refl; task_is = λ i l. sym (record_of s i) }

-- A state that holds a set has the works and periods of the set's rules.
pub work_of : (set : ℕ → Record) (n : ℕ) (s : State) → Holds set n s → (i : ℕ) → i < n → (rules_from set n).C i ≡ (entry_in s i).task.work
work_of set n s H i l = rw (H.task_is i l) (work_is set n i l)

pub period_of : (set : ℕ → Record) (n : ℕ) (s : State) → Holds set n s → (i : ℕ) → i < n → (rules_from set n).T i ≡ (entry_in s i).task.period
period_of set n s H i l = rw (H.task_is i l) (period_is set n i l)
