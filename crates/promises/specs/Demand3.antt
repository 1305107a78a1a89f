-- DEMAND 3 stands here on one page: the record `Demand3` has the user's words, sentence by sentence, above what we
-- make of them, and `demand_3`, at the end, shows that all of it holds. Between them stand the theorems that it rests
-- on, and some that say more.
--
-- A history is any list of calls from `start`, refused ones and steps that lend another tally among them; `g` is what
-- the start was given. Its `taken` are the accepted releases, its `finishes` the jobs that ran their last unit. Places
-- count from 0: the task at place i is task i + 1. A start may have been refused, as it is where V is above S: then
-- nothing moves, and only what says that something happens asks for an accepted one.
use Rattle.std.specs.Prelude.{ℕ, suc, ◌+◌, ◌-◌, ◌≤◌, ◌<◌, ◌≡◌, refl, List, get_or, Result, Ok, Err}
use Rattle.std.proofs.Common.{sym, subst, ◌∙◌, arith}
use Rattle.std.proofs.Math.Logic.{⊎_elim}
use Rattle.base.specs.List.{Each, In}
use Rattle.base.proofs.Split.{by_lt}
use Rattle.base.proofs.ListLaws.{each_says}
use Rattle.theory.specs.Rounds.{Window, Overrun}
use Rattle.theory.specs.Pattern.{offset}
use Rattle.theory.specs.Boundary.{boundary}
use Rattle.table.specs.declared.Refusal.{Refusal}
use Rattle.table.specs.declared.Refusal.TheVariants.{NoWindow}
use Rattle.table.specs.Bytes.{record_at}
use Rattle.table.specs.Sound.{places, read_of}
use Rattle.table.specs.Set.{rules_of}
use Rattle.table.specs.Rules.{SoundTable}
use Rattle.table.proofs.SoundLaws.{read_sound, sound_read}
use Rattle.admission.specs.Figure.{limit, figure}
use Rattle.admission.specs.Says.{HasWindow, RightRows, Judged, admitted, refused}
use Rattle.admission.specs.Verdicts.{no_row, admit_of}
use Rattle.admission.proofs.AdmitLaws.{admit_says, refused_exactly}
use Rattle.decisions.specs.declared.Job.TheVariants.{Resting, Working}
use Rattle.scheduler.specs.declared.State.{State}
use Rattle.decisions.specs.declared.Tally.{Tally}
use Rattle.decisions.specs.declared.Tick.TheVariants.{Run, Tail}
use Rattle.decisions.specs.Fits.{clock_end, no_entry}
use Rattle.scheduler.specs.States.{entry_in}
use Rattle.scheduler.specs.Starts.{Given, read_given, fresh_state, start_of, IsStarted}
use Rattle.scheduler.specs.Steps.{step_of}
use Rattle.histories.specs.History.{Past, Call, Taken, Finish, after, begun, history, AtWork}
use Rattle.histories.specs.Jobs.{finish_at, Finished, done, going, Followed, WasReleased, FinishesAt}
use Rattle.histories.specs.Pattern.{worst_pattern}
use Rattle.scheduler.proofs.PlaceLaws.{Sized}
use Rattle.scheduler.proofs.GivenLaws.{given_says, startable_given, started_reads, given_set}
use Rattle.histories.proofs.StillLaws.{started_or_still, still_idle, still_released, still_ticks}
use Rattle.histories.proofs.JobLaws.{history_followed}
use Rattle.histories.proofs.TakenLaws.{history_sourced}
use Rattle.bridge.specs.Moves.{beyond_rests}
use Rattle.bridge.specs.Runs as runs
use Rattle.bridge.specs.Bounds as bounds
use Rattle.bridge.specs.Rest as rest
use Rattle.bridge.specs.Reached as reached

-- A set of n tasks is admitted.
abbrev pub IsAdmitted : Given → ℕ → Type 0
IsAdmitted g n = (admit_of g.table).answer ≡ Ok n

-- `figure_of` is the response figure that the verdict reports for the task at place i.
abbrev pub figure_of : Given → ℕ → ℕ
figure_of g i = (get_or (admit_of g.table).rows i no_row).figure

-- `worst` is what the worst pattern, given to the first m tasks, has made at clock t; `first_release` is the tick at which
-- it first releases a task: H for the first, 1 for the others.
abbrev pub worst : Given → ℕ → ℕ → Past
worst g m t = history g (worst_pattern (rules_of g.table) m t)

abbrev pub first_release : Given → ℕ → ℕ
first_release g i = offset (rules_of g.table) i

-- The first failing task of a set of n tasks is named by the verdict, has no window, and each task before it has one;
-- and from an accepted start the worst pattern, given to the tasks up to it, none of its calls refused, leaves it at
-- work on its first job at release + T.
pub record FirstFailing (g : Given) (n : ℕ) : Type 0 where
  pub place : ℕ
  pub rounds : ℕ
  pub a_task : place < n
  pub named : (admit_of g.table).answer ≡ Err (NoWindow (place + 1) rounds)
  pub no_window : HasWindow (rules_of g.table) place → ⊥
  pub windows_before : (i : ℕ) → i < place → HasWindow (rules_of g.table) i
  pub late : IsStarted g → let t = first_release g place + (rules_of g.table).T place in AtWork (worst g (place + 1) t) place (first_release g place) t

pub record Demand3 (g : Given) (n : ℕ) : Type 0 where
  -- "From a fresh start on an admitted set, with releases accepted under the spacing rules and until the clock ends,
  -- every job finishes within its task's response figure, in ticks counted on demand 2's schedule": after any calls, of
  -- every release that was accepted, once the clock is at least that tick + the figure, the finishes hold that very job,
  -- after its release and at most the figure after it.
  pub every_job_finishes : IsAdmitted g n → (calls : List Call) (j : Taken) → In j (history g calls).taken
      → j.at + figure_of g j.place ≤ (history g calls).state.clock
      → Finished (j.at + figure_of g j.place) (history g calls).finishes j.at j
  -- "(a job cut off by the clock's end aside)": nor is such a job late. A task at work on a job released at a is so at a
  -- clock below a + its figure.
  pub no_job_is_late : IsAdmitted g n → (calls : List Call) (i a left : ℕ) → i < n → (entry_in (history g calls).state i).job ≡ Working a left
      → (history g calls).state.clock < a + figure_of g i
  -- "and one named release pattern reaches each figure exactly": under the worst pattern, none of its calls refused, the
  -- finish of each task's first job stands in the list at release + figure.
  pub each_figure_is_reached : IsStarted g → IsAdmitted g n → (i : ℕ) → i < n
      → let t = first_release g i + figure_of g i in FinishesAt (worst g n t) i (first_release g i) t
  -- "For a sound set that is not admitted, that pattern, given to the tasks up to the first failing one, leaves that
  -- task's first job unfinished at its period."
  pub not_admitted_is_late : SoundTable g.table n → (IsAdmitted g n → ⊥) → FirstFailing g n
  -- "On any sound set, once a tick outside the sleep slot has no work to run, no task runs again before the end of the
  -- next sleep slot": where a step answered a tail tick, lent any tally t, no step of whatever goes on from the state it
  -- left, lent any tally u, answers a run before the end of the slot that starts at the first boundary after it.
  pub tail_rests : (before between : List Call) (p : Past) (t u : Tally) (k : ℕ)
      → (step_of (history g before).state t).answer ≡ Ok Tail → p.state ≡ (step_of (history g before).state t).state
      → (step_of (after p between).state u).answer ≡ Ok (Run k)
      → boundary (rules_of g.table).H (history g before).state.clock + (rules_of g.table).S ≤ (after p between).state.clock

-- `Admits` is what an admitted table's verdict says of it: it is sound, and every task has a window, whose figure is
-- reported.
record Admits (g : Given) (n : ℕ) : Type 0 where
  sound : read_of g.table ≡ Ok n
  window : (i : ℕ) → i < n → (w : ℕ) × Window (rules_of g.table) i (limit (rules_of g.table) i) w × (figure_of g i ≡ figure (rules_of g.table) i w)

-- Where the verdict is admitted, `Admits` holds.
admits : (g : Given) (n : ℕ) → IsAdmitted g n → Admits g n
admits g n a = go (read_of g.table) refl
  where
    by_verdict : (m : ℕ) → read_of g.table ≡ Ok m → Judged (rules_of g.table) m (admit_of g.table) → Admits g n
    by_verdict m e (admitted b A) =
        let w : Ok m ≡ Ok n = sym b ∙ a in
        let same : m ≡ n = cc in
        record {
          sound = rw (← same) e;
          window = λ i l. ((get_or (admit_of g.table).rows i no_row).window, (A.row i (omega arith)).window, (A.row i (omega arith)).figure_is);
        }
    by_verdict m e (refused f k l b P A) =
        let w : Err (NoWindow (f + 1) k) ≡ Ok n = sym b ∙ a in
        let z : ◌≡◌ {A = ℕ} 0 1 = cc in absurd (let y : ⊥ = omega arith in y)

    go : (r : Result ℕ Refusal) → read_of g.table ≡ r → Admits g n
    go (Ok m) e = by_verdict m e (admit_says g.table m e)
    go (Err r) e =
        let w : Err r ≡ Ok n = rw e at a in
        let z : ◌≡◌ {A = ℕ} 0 1 = cc in absurd (let y : ⊥ = omega arith in y)

-- REST AFTER A TAIL TICK holds of any state of 16 places, with any tally, over any calls. The state may be one that was
-- restored or handed in.
pub any_state_rests : (s : State) (t u : Tally) (k : ℕ) (p : Past) (between : List Call) → Sized s → (step_of s t).answer ≡ Ok Tail
    → p.state ≡ (step_of s t).state → (step_of (after p between).state u).answer ≡ Ok (Run k)
    → boundary s.sleep.period s.clock + s.sleep.work ≤ (after p between).state.clock
any_state_rests = rest.tail_rests

-- OF EVERY HISTORY these hold, whatever its start was given.
module _ (g : Given) where
  -- A window of task i alone is enough: a job of it that is unfinished is younger than its figure.
  pub one_window_is_enough : (i w a l : ℕ) (calls : List Call) → Window (rules_of g.table) i (limit (rules_of g.table) i) w
      → (entry_in (history g calls).state i).job ≡ Working a l → (history g calls).state.clock < a + figure (rules_of g.table) i w
  one_window_is_enough i w a l calls W j = ⊎_elim
      (λ start. let r = started_reads g start in rw r.1 (bounds.working_below g r.0 i w a l calls r.1 W (rw r.1 at j)))
      (λ S. absurd (still_idle (history g calls) S i a l j))
      (started_or_still g calls)

  -- Every accepted release is followed: after any calls its job is among the finishes, at a clock after the release, or
  -- is its task's job now.
  pub every_job_is_followed : (calls : List Call) (j : Taken) → In j (history g calls).taken → Followed (history g calls) j
  every_job_is_followed calls j i = ⊎_elim
      (λ start.
      let r = started_reads g start in
      let fresh : (start_of g).state ≡ fresh_state g r.0 = rw r.1 in
      subst (λ (s : State). In j (after (begun s) calls).taken → Followed (after (begun s) calls) j) (sym fresh) (history_followed g r.0 calls j r.1) i)
      (λ S. absurd (still_released (history g calls) S j i))
      (started_or_still g calls)

  -- No job is left out of the accepted releases: a job at which a task is at work, and each that has finished, is one of
  -- them.
  pub every_job_was_released : (i a l : ℕ) (calls : List Call) → i < places → (entry_in (history g calls).state i).job ≡ Working a l
      → WasReleased (history g calls).taken i a
  every_job_was_released i a l calls li j = ⊎_elim
      (λ start. let r = started_reads g start in rw r.1 ((history_sourced g r.0 calls r.1).working i a l li (rw r.1 at j)))
      (λ S. absurd (still_idle (history g calls) S i a l j))
      (started_or_still g calls)

  pub every_finish_was_released : (calls : List Call) (f : Finish) → In f (history g calls).finishes → WasReleased (history g calls).taken f.place f.release
  unfolding In
  every_finish_was_released calls f m = ⊎_elim
      (λ start. let r = started_reads g start in rw r.1 ((history_sourced g r.0 calls r.1).finishing f (rw r.1 at m)))
      (λ S. absurd (rw S.none_finished at m))
      (started_or_still g calls)

-- OF A SOUND SET THAT WAS STARTED these hold.
module _ (g : Given) (n : ℕ) (start : IsStarted g) (sound : SoundTable g.table n) where
  e : read_given g ≡ Ok n
  e = let r = started_reads g start in startable_given g n (record { sound = sound; waking_fits = (given_says g r.0 r.1).1 })

  -- Only the n tasks are at work.
  at_work_is_a_task : (calls : List Call) (i a l : ℕ) → (entry_in (history g calls).state i).job ≡ Working a l → i < n
  at_work_is_a_task calls i a l q = by_lt i n (i < n) (λ l. l) (λ ge.
      let B : runs.Bridged (runs.records g) (runs.tasks g) (history g calls) = rw e (runs.history_bridged g n calls e) in
      let tasks : runs.tasks g ≡ n = (given_set g n e).tasks in
      let spare : entry_in (history g calls).state i ≡ no_entry =
      beyond_rests (history g calls).state B.sized B.lawful_state i (omega (arith, B.holds.n_is)) in
      let w : Resting ≡ Working a l = rw spare at q in
      let z : ◌≡◌ {A = ℕ} 0 1 = cc in absurd (let y : ⊥ = omega arith in y))

  -- Where the verdict is refusal 5 at the task at place f, the worst pattern, given to the tasks up to it, shows it
  -- late.
  failing_is_late : (f k : ℕ) → f < n → Overrun (rules_of g.table) f (limit (rules_of g.table) f) k
      → RightRows (rules_of g.table) f (admit_of g.table).rows
      → let t = first_release g f + (rules_of g.table).T f in AtWork (worst g (f + 1) t) f (first_release g f) t
  failing_is_late f k l P A =
      let one : suc f ≡ f + 1 = omega arith in
      let t : ℕ = first_release g f + (rules_of g.table).T f in
      let late : AtWork (reached.patterned g n (f + 1) t) f (first_release g f) t =
      subst (λ (c : ℕ). AtWork (reached.patterned g n c t) f (first_release g f) t) one
      (reached.late_then g n e f k (λ j lj. ((get_or (admit_of g.table).rows j no_row).window, (A.row j lj).window)) l P) in
      rw e late

-- OF AN ADMITTED SET this holds: a job of any task that is unfinished is younger than its figure.
unfinished_is_young : (g : Given) (n : ℕ) → IsAdmitted g n → (calls : List Call) (i a l : ℕ) → i < n → (entry_in (history g calls).state i).job ≡ Working a l
    → (history g calls).state.clock < a + figure_of g i
unfinished_is_young g n ok calls i a l li j =
    let W = (admits g n ok).window i li in
    rw W.2 (one_window_is_enough g i W.0 a l calls W.1 j)

-- OF AN ADMITTED SET THAT WAS STARTED these hold.
module _ (g : Given) (n : ℕ) (start : IsStarted g) (ok : IsAdmitted g n) where
  A : Admits g n
  A = admits g n ok

  S : SoundTable g.table n
  S = read_sound g.table n A.sound

  reads : read_given g ≡ Ok n
  reads = e g n start S

  windows : (k : ℕ) → k ≤ n - 1 → 1 ≤ n → (w : ℕ) × Window (rules_of g.table) k (limit (rules_of g.table) k) w
  windows k l some = let W = A.window k (omega arith) in (W.0, W.1)

  -- Of all the finishes of a history, none came later than its figure after its release.
  finishes_within : (calls : List Call) → Each (λ (f : Finish). f.at ≤ f.release + figure_of g f.place) (history g calls).finishes
  finishes_within calls =
      let fresh : (start_of g).state ≡ fresh_state g n = rw reads in
      subst (λ (s : State). Each (λ (f : Finish). f.at ≤ f.release + figure_of g f.place) (after (begun s) calls).finishes) (sym fresh)
      (bounds.finishes_within g n reads (figure_of g) A.window calls)

  -- A job that is followed has finished within its figure, once that is past.
  finished_by_then : (calls : List Call) (j : Taken) → Followed (history g calls) j → j.at + figure_of g j.place ≤ (history g calls).state.clock
      → Finished (j.at + figure_of g j.place) (history g calls).finishes j.at j
  finished_by_then calls j (done D) past =
      let within = each_says (λ (f : Finish). f.at ≤ f.release + figure_of g f.place) (finish_at j D.at) (history g calls).finishes (finishes_within calls) D.noted in
      record { at = D.at; later = D.later; in_time = within; noted = D.noted }
  finished_by_then calls j (going l from q) past =
      absurd (omega (arith, unfinished_is_young g n ok calls j.place j.at l (at_work_is_a_task g n start S calls j.place j.at l q) q))

  -- Under the worst pattern the finish of the first job of the task at place i stands in the list at release + figure.
  figure_finishes : (i : ℕ) → i < n → let t = first_release g i + figure_of g i in FinishesAt (worst g n t) i (first_release g i) t
  figure_finishes i li =
      let W = A.window i li in
      let last : suc (n - 1) ≡ n = omega arith in
      rw (W.2, reads) (rw last at (reached.finishes_then g n reads (n - 1) i W.0 (λ k lk. windows k lk (omega arith))
      (omega arith) (omega arith) W.1))

  -- THE WORST PATTERN IS ACCEPTED: no call of it is refused, up to the clock's end, and so its calls up to t bring the
  -- clock to t.
  pub pattern_is_accepted : (t : ℕ) → t ≤ clock_end → ((worst g n t).refusals ≡ 0) × ((worst g n t).state.clock ≡ t)
  pattern_is_accepted t l = rw reads (reached.all_accepted g n reads t (λ j lj. ((A.window j lj).0, (A.window j lj).1)) l)

  -- Under the worst pattern the first job of the task at place i is at work at every clock after its release and before
  -- release + figure.
  pub figure_is_reached : (i t : ℕ) → i < n → first_release g i < t → t < first_release g i + figure_of g i → AtWork (worst g n t) i (first_release g i) t
  figure_is_reached i t li later early =
      let W = A.window i li in
      let last : suc (n - 1) ≡ n = omega arith in
      rw reads (rw last at (reached.works_until g n reads (n - 1) i W.0 t (λ k lk. windows k lk (omega arith))
      (omega arith) (omega arith) W.1 later (rw W.2 at early)))

  -- Under the worst pattern the task at place i is at rest at its first release + figure.
  pub figure_is_enough : (i : ℕ) → i < n → (entry_in (worst g n (first_release g i + figure_of g i)).state i).job ≡ Resting
  figure_is_enough i li =
      let W = A.window i li in
      let last : suc (n - 1) ≡ n = omega arith in
      rw (W.2, reads) (rw last at (reached.rests_then g n reads (n - 1) i W.0 (λ k lk. windows k lk (omega arith))
      (omega arith) (omega arith) W.1))

-- NO FIGURE IS ABOVE ITS PERIOD: every job of an admitted set finishes by the tick at which its task may be released
-- again.
pub figure_within_period : (g : Given) (n : ℕ) → IsAdmitted g n → (i : ℕ) → i < n → figure_of g i ≤ (rules_of g.table).T i
figure_within_period g n ok i li =
    let W = (admits g n ok).window i li in
    omega (arith, W.2, W.1.some, W.1.within)

-- A verdict that is not "admitted" names the first failing task.
failing : (g : Given) (n : ℕ) → SoundTable g.table n → (IsAdmitted g n → ⊥) → Judged (rules_of g.table) n (admit_of g.table) → FirstFailing g n
failing g n S not (admitted b A) = absurd (not b)
failing g n S not (refused f k l b P A) =
    let F = (refused_exactly g.table n f (sound_read g.table n S)).0 (k, b) in
    record { place = f; rounds = k; a_task = l; named = b; no_window = F.1; windows_before = F.2; late = λ start. failing_is_late g n start S f k l P A }

-- EVERY FINISH IS WITHIN THE FIGURE: of all the finishes of a history of an admitted set, none came later than its
-- figure after its release.
pub every_finish_is_within : (g : Given) (n : ℕ) → IsAdmitted g n → (calls : List Call) → Each (λ (f : Finish). f.at ≤ f.release + figure_of g f.place) (history g calls).finishes
unfolding Each
every_finish_is_within g n ok calls = ⊎_elim (λ start. finishes_within g n start ok calls) (λ S. rw S.none_finished tt) (started_or_still g calls)

-- DEMAND 3 HOLDS.
pub demand_3 : (g : Given) (n : ℕ) → Demand3 g n
demand_3 g n = record {
  every_job_finishes = λ ok calls j i past. ⊎_elim
      (λ start. finished_by_then g n start ok calls j (every_job_is_followed g calls j i) past)
      (λ S. absurd (still_released (history g calls) S j i))
      (started_or_still g calls);
  no_job_is_late = unfinished_is_young g n;
  each_figure_is_reached = figure_finishes g n;
  not_admitted_is_late = λ S not. failing g n S not (admit_says g.table n (sound_read g.table n S));
  tail_rests = λ before between p t u k tail from run. ⊎_elim
      (λ start.
      let r = started_reads g start in
      let B = runs.history_bridged g r.0 before r.1 in
      let sleep : (history g before).state.sleep ≡ record_at g.table 0 = rw r.1 B.holds.sleep_is in
      rw (← sleep) (any_state_rests (history g before).state t u k p between (rw r.1 B.sized) tail from run))
      (λ S. absurd (still_ticks (history g before) S t Tail tail))
      (started_or_still g before);
}
