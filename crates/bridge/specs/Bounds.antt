-- The response bound is carried over to histories of calls.
use Rattle.std.specs.Prelude.{ℕ, ◌+◌, ◌-◌, ◌≤◌, ◌<◌, ◌≡◌, Bool, true, false, cond, leb, Result, Ok, Err}
use Rattle.std.proofs.Math.Path.{refl}
use Rattle.std.proofs.Common.{ap, arith}
use mathlib.Core.List.{List, [], ◌∷◌}
use Rattle.base.specs.List.{Each}
use Rattle.base.specs.Fold.{folded}
use Rattle.theory.specs.Rounds.{Window}
use Rattle.theory.proofs.System.{Reach, start}
use Rattle.theory.proofs.Response.{response}
use Rattle.table.specs.declared.Refusal.{Refusal}
use Rattle.table.specs.Set.{rules_of}
use Rattle.admission.specs.Figure.{limit, figure}
use Rattle.decisions.specs.declared.Tick.{Tick}
use Rattle.decisions.specs.declared.Job.{Job}
use Rattle.decisions.specs.declared.Job.TheVariants.{Resting, Working}
use Rattle.scheduler.specs.declared.State.{State}
use Rattle.decisions.specs.declared.Tally.{Tally}
use Rattle.decisions.specs.declared.Tick.TheVariants.{Run, Slot, Tail}
use Rattle.scheduler.specs.States.{entry_in}
use Rattle.scheduler.specs.Starts.{Given, read_given, fresh_state}
use Rattle.scheduler.proofs.GivenLaws.{given_set}
use Rattle.scheduler.specs.Steps.{first_ready, step_of}
use Rattle.histories.specs.History.{Call, release, step, lend, Finish, Past, ended, finished, next, after, begun}
use Rattle.bridge.specs.Views.{job_view, view_of}
use Rattle.bridge.specs.Runs.{Bridged, records, tasks, bridged_next, bridged_begun, begun_fresh, reach_after, history_reaches, rules_sound}
use Rattle.bridge.specs.Ticks.{run_is}

-- A TASK AT WORK ON A JOB RELEASED AT a is so at a clock below a + its figure.
pub working_below : (g : Given) (n i w a l : ℕ) (calls : List Call) → read_given g ≡ Ok n → Window (rules_of g.table) i (limit (rules_of g.table) i) w
    → (entry_in (after (begun (fresh_state g n)) calls).state i).job ≡ Working a l
    → (after (begun (fresh_state g n)) calls).state.clock < a + figure (rules_of g.table) i w
working_below g n i w a l calls e W j =
    response (rules_of g.table) i w (view_of (after (begun (fresh_state g n)) calls).state) a l
    (rules_sound g n e) W.some W.fits (history_reaches g n calls e) (ap job_view j)

-- The finish is within the figure of its task, where figures are given by place.
abbrev pub InFigure : (ℕ → ℕ) → Finish → Type 0
InFigure figures f = f.at ≤ f.release + figures f.place

-- EVERY FINISH IS WITHIN THE FIGURE on a table of which every task has a window.
module _ (g : Given) (n : ℕ) (e : read_given g ≡ Ok n) (figures : ℕ → ℕ)
    (W : (i : ℕ) → i < n → (w : ℕ) × Window (rules_of g.table) i (limit (rules_of g.table) i) w × (figures i ≡ figure (rules_of g.table) i w)) where
  -- One step more, whatever tally it lends, keeps every finish within its figure.
  finish_step : (p : Past) (t : Tally) → Bridged (records g) (tasks g) p → Reach (rules_of g.table) (view_of p.state) → Each (InFigure figures) p.finishes
      → Each (InFigure figures) (finished p.state p.finishes (step_of p.state t).answer)
  unfolding Each
  finish_step p t B r fs = go (step_of s t).answer refl
    where
      s : State
      s = p.state

      by_job : (i : ℕ) → i < n → (job : Job) → (entry_in s i).job ≡ job → Each (InFigure figures) (ended i (s.clock + 1) p.finishes job)
      by_job i li Resting q = fs
      by_job i li (Working a l) q = by_left (leb l 1)
        where
          early : s.clock < a + figures i
          early =
              let x = W i li in
              rw x.2 (response (rules_of g.table) i x.0 (view_of s) a l (rules_sound g n e) x.1.some x.1.fits r (ap job_view q))

          by_left : (b : Bool) → Each (InFigure figures) (cond b (record { place = i; release = a; at = s.clock + 1 } ∷ p.finishes) p.finishes)
          by_left true = (omega (arith, early), fs)
          by_left false = fs

      go : (a : Result Tick Refusal) → (step_of s t).answer ≡ a → Each (InFigure figures) (finished s p.finishes (step_of s t).answer)
      go (Err x) q = rw q fs
      go (Ok Slot) q = rw q fs
      go (Ok Tail) q = rw q fs
      go (Ok (Run k)) q =
          let R = run_is (records g) (tasks g) s t k B.sized B.holds q in
          let li : first_ready s < n = omega (arith, R.a_task, B.holds.n_is, (given_set g n e).tasks) in
          let same : first_ready s + 1 - 1 ≡ first_ready s = omega arith in
          rw (q, R.numbered, same) (by_job (first_ready s) li (entry_in s (first_ready s)).job refl)

  -- Every call keeps every finish within its figure.
  finish_next : (p : Past) (call : Call) → Bridged (records g) (tasks g) p → Reach (rules_of g.table) (view_of p.state) → Each (InFigure figures) p.finishes
      → Each (InFigure figures) (next p call).finishes
  unfolding next
  finish_next p (release task demand) B r fs = fs
  finish_next p step B r fs = finish_step p p.tally B r fs
  finish_next p (lend t) B r fs = finish_step p t B r fs

  finishes_after : (p : Past) (calls : List Call) → Bridged (records g) (tasks g) p → Reach (rules_of g.table) (view_of p.state) → Each (InFigure figures) p.finishes
      → Each (InFigure figures) (after p calls).finishes
  unfolding folded
  finishes_after p [] B r fs = fs
  finishes_after p (call ∷ calls) B r fs =
      finishes_after (next p call) calls (bridged_next (records g) (tasks g) p call B) (reach_after (records g) (tasks g) p (call ∷ []) B r) (finish_next p call B r fs)

  -- Every finish of calls from a fresh start is within its figure.
  pub finishes_within : (calls : List Call) → Each (InFigure figures) (after (begun (fresh_state g n)) calls).finishes
  unfolding Each
  finishes_within calls =
      finishes_after (begun (fresh_state g n)) calls (bridged_begun g n e) (start (begun_fresh g n e)) tt
