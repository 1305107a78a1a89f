-- Every job of a history comes from a release that it had accepted: a job at which a task is at work, and each that has
-- finished. A task comes to work by an accepted release alone, which is noted; a run leaves a job of the same release,
-- or notes the finish of it. So the list of the accepted releases leaves no job out.
use Rattle.std.specs.Prelude.{Result, Ok, Err}
use Prim.Native.Nat.{ℕ, ◌+◌, ◌-◌, ◌<◌}
use mathlib.Core.Path.{◌≡◌, refl, sym, ap, ◌∙◌}
use mathlib.Core.Logic.{inl, inr}
use mathlib.Core.List.{List, ◌∷◌}
use mathlib.Core.Bool.{Bool, true, false, cond}
use native.Mathlib.Omega.{arith}
use lib.Dec.{leb}
use Rattle.base.specs.List.{In}
use Rattle.base.proofs.Split.{by_eq}
use Rattle.base.proofs.FoldLaws.{folded_keeps}
use Rattle.table.specs.declared.Refusal.{Refusal}
use Rattle.table.specs.Sound.{places}
use Rattle.decisions.specs.declared.Job.{Job}
use Rattle.decisions.specs.declared.Job.TheVariants.{Resting, Working}
use Rattle.decisions.specs.declared.Entry.{Entry}
use Rattle.scheduler.specs.declared.State.{State}
use Rattle.decisions.specs.declared.Tally.{Tally}
use Rattle.decisions.specs.Fits.{clock_end}
use Rattle.scheduler.specs.States.{entry_in}
use Rattle.scheduler.specs.Lawful.{LawfulState}
use Rattle.scheduler.specs.Starts.{Given, read_given, fresh_state}
use Rattle.scheduler.specs.Releases.{release_answer, released_entry, released_state}
use Rattle.decisions.specs.Ticks.{worked_job, worked_of}
use Rattle.scheduler.specs.Steps.{first_ready, tick_of, after_run, after_tick, step_of}
use Rattle.histories.specs.History.{Call, release, step, lend, Taken, Finish, Past, ended, finished, next, after, begun}
use Rattle.histories.specs.Jobs.{WasReleased}
use Rattle.scheduler.proofs.PlaceLaws.{Sized, OnePlace}
use Rattle.scheduler.proofs.ReleaseLaws.{FreeTask, accepted_says, release_place}
use Rattle.scheduler.proofs.TickLaws.{worked_says, TickIs, slots, runs, tails, tick_is, run_place}
use Rattle.scheduler.proofs.StepLaws.{StepIs, moves, stays, step_is}
use Rattle.scheduler.proofs.StartLaws.{fresh_rests}
use Rattle.histories.proofs.HistoryLaws.{Kept, kept_next, kept_begun}

-- Each job at work at one of the 16 places, and each that finished, was released.
pub record Sourced (s : State) (taken : List Taken) (finishes : List Finish) : Type 0 where
  pub working : (i a l : ℕ) → i < places → (entry_in s i).job ≡ Working a l → WasReleased taken i a
  pub finishing : (f : Finish) → In f finishes → WasReleased taken f.place f.release

abbrev pub FromReleases : Past → Type 0
FromReleases p = Sourced p.state p.taken p.finishes

-- After an accepted release every job still comes from a noted release.
sourced_release : (s : State) (task demand : ℕ) (taken : List Taken) (fs : List Finish) → Sized s → FreeTask s task demand → Sourced s taken fs
    → Sourced (released_state s task demand) (record { place = task - 1; at = s.clock; demand = demand } ∷ taken) fs
unfolding In
sourced_release s task demand taken fs size F S = record {
  working = λ i a l li q. by_eq i (task - 1) (WasReleased (record { place = task - 1; at = s.clock; demand = demand } ∷ taken) i a)
      (λ same.
      let is : Working s.clock demand ≡ Working a l = sym (ap {A = Entry} (λ x. x.job) P.here) ∙ rw same at q in
      let then : s.clock ≡ a = cc in
      rw (same, ← then) (demand, inl refl))
      (λ other. let r = S.working i a l li (sym (ap {A = Entry} (λ x. x.job) (P.there i other)) ∙ q) in (r.0, inr r.1));
  finishing = λ f m. let r = S.finishing f m in (r.0, inr r.1);
}
  where
    P : OnePlace s (released_state s task demand) (task - 1) (released_entry s (task - 1) demand)
    P = (release_place s task demand size F).place

-- After a run of the task at a place every job still comes from a noted release.
sourced_run : (s s' : State) (place : ℕ) (taken : List Taken) (fs : List Finish) → place < places → OnePlace s s' place (worked_of (entry_in s place)) → Sourced s taken fs
    → Sourced s' taken (ended place (s.clock + 1) fs (entry_in s place).job)
unfolding In
sourced_run s s' place taken fs lp P S = record {
  working = λ i a l li q. by_eq i place (WasReleased taken i a)
      (λ same.
      let is : worked_job (entry_in s place).job ≡ Working a l = sym (ap {A = Entry} (λ x. x.job) P.here) ∙ rw same at q in
      rw same (S.working place a (l + 1) lp (worked_says (entry_in s place).job a l is)))
      (λ other. S.working i a l li (sym (ap {A = Entry} (λ x. x.job) (P.there i other)) ∙ q));
  finishing = by_job (entry_in s place).job refl;
}
  where
    by_job : (job : Job) → (entry_in s place).job ≡ job → (f : Finish) → In f (ended place (s.clock + 1) fs job) → WasReleased taken f.place f.release
    by_job Resting q = S.finishing
    by_job (Working a l) q = by_left (leb l 1)
      where
        by_left : (b : Bool) → (f : Finish) → In f (cond b (record { place = place; release = a; at = s.clock + 1 } ∷ fs) fs) → WasReleased taken f.place f.release
        by_left true f (inl e) = rw e (S.working place a l lp q)
        by_left true f (inr m) = S.finishing f m
        by_left false f m = S.finishing f m

-- After a step, whatever tally it lends, every job still comes from a noted release.
sourced_step : (s : State) (t : Tally) (taken : List Taken) (fs : List Finish) → Sized s → LawfulState s → Sourced s taken fs
    → Sourced (step_of s t).state taken (finished s fs (step_of s t).answer)
sourced_step s t taken fs size L S = go (step_is s t)
  where
    by_tick : s.clock < clock_end → TickIs s → Sourced (after_tick s (tick_of s)) taken (finished s fs (Ok (tick_of s)))
    by_tick l (slots a e) = rw e (record { working = S.working; finishing = S.finishing })
    by_tick l (tails a b e) = rw e (record { working = S.working; finishing = S.finishing })
    by_tick l (runs a b e) =
        let same : first_ready s + 1 - 1 ≡ first_ready s = omega arith in
        rw (e, same) (sourced_run s (after_run s (first_ready s)) (first_ready s) taken fs (omega (arith, b, L.few)) (run_place s (first_ready s) size L l b).place S)

    go : StepIs s t → Sourced (step_of s t).state taken (finished s fs (step_of s t).answer)
    go (stays r q) = rw q S
    go (moves m q) = rw q (by_tick m.before_end (tick_is s))

-- ONE CALL MORE leaves every job coming from a noted release.
sourced_next : (p : Past) (call : Call) → Kept p → FromReleases p → FromReleases (next p call)
unfolding next
sourced_next p (release task demand) K S = go (release_answer p.state task demand) refl
  where
    go : (a : Result (Unit {0}) Refusal) → release_answer p.state task demand ≡ a → FromReleases (next p (release task demand))
    go (Err r) q = rw q S
    go (Ok tt) q = rw q (sourced_release p.state task demand p.taken p.finishes K.sized (accepted_says p.state task demand q) S)
sourced_next p step K S = sourced_step p.state p.tally p.taken p.finishes K.sized K.lawful_state S
sourced_next p (lend t) K S = sourced_step p.state t p.taken p.finishes K.sized K.lawful_state S

-- EVERY JOB OF A HISTORY WAS RELEASED.
pub history_sourced : (g : Given) (n : ℕ) (calls : List Call) → read_given g ≡ Ok n → FromReleases (after (begun (fresh_state g n)) calls)
unfolding In
history_sourced g n calls e =
    (folded_keeps (λ (q : Past). Kept q × FromReleases q) next (λ q call x. (kept_next q call x.0, sourced_next q call x.0 x.1))
    (begun (fresh_state g n)) calls (kept_begun g n e, fresh)).1
  where
    fresh : FromReleases (begun (fresh_state g n))
    fresh = record {
      working = λ i a l li q.
          let w : Resting ≡ Working a l = sym (fresh_rests g n i (kept_begun g n e).lawful_state.few li).0 ∙ q in
          let z : ◌≡◌ {A = ℕ} 0 1 = cc in absurd (let y : ⊥ = omega arith in y);
      finishing = λ f m. absurd m;
    }
