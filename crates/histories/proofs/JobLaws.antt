-- Every accepted release is followed to its finish. A call changes the place of one task: a release finds its task at
-- rest, so it takes the place of no job; a run works at its task's job, which goes on or is noted as a finish; any
-- other call changes no place. No call takes a finish out of the list.
use Rattle.std.specs.Prelude.{Result, Ok, Err}
use Prim.Native.Nat.{ℕ, ◌+◌, ◌-◌, ◌<◌}
use mathlib.Core.Path.{◌≡◌, refl, sym, ap, ◌∙◌}
use mathlib.Core.Logic.{inl, inr}
use mathlib.Core.List.{List, ◌∷◌}
use mathlib.Core.Bool.{Bool, true, false, cond}
use native.Mathlib.Omega.{arith}
use lib.Dec.{leb}
use Rattle.base.specs.List.{In}
use Rattle.base.proofs.Split.{by_eq}
use Rattle.base.proofs.FoldLaws.{folded_keeps}
use Rattle.table.specs.declared.Refusal.{Refusal}
use Rattle.decisions.specs.declared.Job.{Job}
use Rattle.decisions.specs.declared.Job.TheVariants.{Resting, Working}
use Rattle.decisions.specs.declared.Entry.{Entry}
use Rattle.scheduler.specs.declared.State.{State}
use Rattle.decisions.specs.declared.Tally.{Tally}
use Rattle.decisions.specs.Fits.{clock_end}
use Rattle.scheduler.specs.States.{entry_in, aged}
use Rattle.scheduler.specs.Lawful.{LawfulState}
use Rattle.scheduler.specs.Starts.{Given, read_given, fresh_state}
use Rattle.scheduler.specs.Releases.{release_answer, released_state}
use Rattle.decisions.specs.Ticks.{worked_job, worked_of}
use Rattle.scheduler.specs.Steps.{first_ready, tick_of, after_run, after_tick, step_of}
use Rattle.histories.specs.History.{Call, release, step, lend, Taken, Finish, Past, ended, finished, next, after, begun}
use Rattle.histories.specs.Jobs.{finish_at, Standing, done, going, Followed}
use Rattle.scheduler.proofs.PlaceLaws.{Sized, OnePlace}
use Rattle.scheduler.proofs.ReleaseLaws.{FreeTask, accepted_says, release_place}
use Rattle.scheduler.proofs.TickLaws.{TickIs, slots, runs, tails, tick_is, run_place}
use Rattle.scheduler.proofs.StepLaws.{StepIs, moves, stays, step_is}
use Rattle.histories.proofs.HistoryLaws.{Kept, kept_next, kept_begun}

-- A finish stays in the list.
ended_keeps : (x : Finish) (place clock : ℕ) (fs : List Finish) (job : Job) → In x fs → In x (ended place clock fs job)
unfolding In
ended_keeps x place clock fs Resting m = m
ended_keeps x place clock fs (Working a l) m = go (leb l 1)
  where
    go : (b : Bool) → In x (cond b (record { place = place; release = a; at = clock } ∷ fs) fs)
    go true = inr m
    go false = m

-- Every call keeps a job's standing, counted from a clock `since`.
module _ (since : ℕ) (j : Taken) where
  -- An accepted release keeps a job's standing.
  stands_release : (s : State) (task demand : ℕ) (fs : List Finish) → Sized s → FreeTask s task demand → Standing s fs since j
      → Standing (released_state s task demand) fs since j
  stands_release s task demand fs size F (done D) = done (record { at = D.at; later = D.later; in_time = D.in_time; noted = D.noted })
  stands_release s task demand fs size F (going l from q) = by_eq j.place (task - 1) (Standing (released_state s task demand) fs since j)
      (λ same.
      let w : Resting ≡ Working j.at l = sym F.resting ∙ rw same at q in
      let z : ◌≡◌ {A = ℕ} 0 1 = cc in absurd (let y : ⊥ = omega arith in y))
      (λ other. going l from (ap {A = Entry} (λ x. x.job) ((release_place s task demand size F).place.there j.place other) ∙ q))

  -- A tick that runs no task keeps a job's standing.
  stands_still : (s : State) (fs : List Finish) → Standing s fs since j → Standing (aged s) fs since j
  stands_still s fs (done D) = done (record { at = D.at; later = D.later; in_time = omega (arith, D.in_time); noted = D.noted })
  stands_still s fs (going l from q) = going l (omega (arith, from)) q

  -- A run of the task at a place keeps a job's standing.
  stands_run : (s s' : State) (place : ℕ) (fs : List Finish) → OnePlace s s' place (worked_of (entry_in s place)) → s'.clock ≡ s.clock + 1 → Standing s fs since j
      → Standing s' (ended place (s.clock + 1) fs (entry_in s place).job) since j
  unfolding In
  stands_run s s' place fs P up (done D) = done (record {
    at = D.at;
    later = D.later;
    in_time = omega (arith, D.in_time);
    noted = ended_keeps (finish_at j D.at) place (s.clock + 1) fs (entry_in s place).job D.noted;
  })
  stands_run s s' place fs P up (going l from q) = by_eq j.place place (Standing s' (ended place (s.clock + 1) fs (entry_in s place).job) since j)
      (λ same.
      let was : (entry_in s place).job ≡ Working j.at l = rw same at q in
      let is : (entry_in s' j.place).job ≡ worked_job (Working j.at l) = rw same (ap {A = Entry} (λ x. x.job) P.here ∙ ap worked_job was) in
      rw was (by_left same (leb l 1) refl is))
      (λ other. going l (omega (arith, from)) (ap {A = Entry} (λ x. x.job) (P.there j.place other) ∙ q))
    where
      by_left : j.place ≡ place → (b : Bool) → leb l 1 ≡ b → (entry_in s' j.place).job ≡ worked_job (Working j.at l)
          → Standing s' (ended place (s.clock + 1) fs (Working j.at l)) since j
      by_left same true b is = rw (b, ← same) (done (record { at = s.clock + 1; later = omega (arith, from); in_time = omega arith; noted = inl refl }))
      by_left same false b is = rw b (going (l - 1) (omega (arith, from)) (rw b at is))

  -- Every step keeps a job's standing, whatever tally it lends.
  stands_step : (s : State) (t : Tally) (fs : List Finish) → Sized s → LawfulState s → Standing s fs since j
      → Standing (step_of s t).state (finished s fs (step_of s t).answer) since j
  stands_step s t fs size L S = go (step_is s t)
    where
      by_tick : s.clock < clock_end → TickIs s → Standing (after_tick s (tick_of s)) (finished s fs (Ok (tick_of s))) since j
      by_tick l (slots a e) = rw e (stands_still s fs S)
      by_tick l (tails a b e) = rw e (stands_still s fs S)
      by_tick l (runs a b e) =
          let same : first_ready s + 1 - 1 ≡ first_ready s = omega arith in
          rw (e, same) (stands_run s (after_run s (first_ready s)) (first_ready s) fs (run_place s (first_ready s) size L l b).place refl S)

      go : StepIs s t → Standing (step_of s t).state (finished s fs (step_of s t).answer) since j
      go (stays r q) = rw q S
      go (moves m q) = rw q (by_tick m.before_end (tick_is s))

  -- `Stands` is a job's standing in a past, and every call keeps it.
  abbrev Stands : Past → Type 0
  Stands p = Standing p.state p.finishes since j

  pub stands_next : (p : Past) (call : Call) → Kept p → Stands p → Stands (next p call)
  unfolding next
  stands_next p (release task demand) K S = go (release_answer p.state task demand) refl
    where
      go : (a : Result (Unit {0}) Refusal) → release_answer p.state task demand ≡ a → Stands (next p (release task demand))
      go (Err r) q = rw q S
      go (Ok tt) q = rw q (stands_release p.state task demand p.finishes K.sized (accepted_says p.state task demand q) S)
  stands_next p step K S = stands_step p.state p.tally p.finishes K.sized K.lawful_state S
  stands_next p (lend t) K S = stands_step p.state t p.finishes K.sized K.lawful_state S

  -- A JOB'S STANDING is kept by every list of calls.
  pub stands_after : (p : Past) (calls : List Call) → Kept p → Stands p → Stands (after p calls)
  stands_after p calls K S = (folded_keeps (λ (q : Past). Kept q × Stands q) next
      (λ q call x. (kept_next q call x.0, stands_next q call x.0 x.1)) p calls (K, S)).1

-- Every accepted release so far is followed.
abbrev AllFollowed : Past → Type 0
AllFollowed p = (j : Taken) → In j p.taken → Followed p j

-- One call more keeps every accepted release followed: a release that it accepts is its task's job now.
followed_next : (p : Past) (call : Call) → Kept p → AllFollowed p → AllFollowed (next p call)
unfolding next In
followed_next p (release task demand) K F = go (release_answer p.state task demand) refl
  where
    s : State
    s = p.state

    new : FreeTask s task demand → (j : Taken) → j ≡ record { place = task - 1; at = s.clock; demand = demand }
        → Standing (released_state s task demand) p.finishes j.at j
    new A j e = rw e (going demand (omega arith) (ap {A = Entry} (λ x. x.job) (release_place s task demand K.sized A).place.here))

    go : (a : Result (Unit {0}) Refusal) → release_answer s task demand ≡ a → AllFollowed (next p (release task demand))
    go (Err r) q = rw q F
    go (Ok tt) q = rw q taken
      where
        A : FreeTask s task demand
        A = accepted_says s task demand q

        taken : (j : Taken) → In j (record { place = task - 1; at = s.clock; demand = demand } ∷ p.taken) → Standing (released_state s task demand) p.finishes j.at j
        taken j (inl e) = new A j e
        taken j (inr i) = stands_release j.at j s task demand p.finishes K.sized A (F j i)
followed_next p step K F = λ j i. stands_next j.at j p step K (F j i)
followed_next p (lend t) K F = λ j i. stands_next j.at j p (lend t) K (F j i)

-- EVERY ACCEPTED RELEASE OF A HISTORY IS FOLLOWED.
pub history_followed : (g : Given) (n : ℕ) (calls : List Call) (j : Taken) → read_given g ≡ Ok n
    → In j (after (begun (fresh_state g n)) calls).taken → Followed (after (begun (fresh_state g n)) calls) j
unfolding In
history_followed g n calls j e =
    (folded_keeps (λ (q : Past). Kept q × AllFollowed q) next (λ q call x. (kept_next q call x.0, followed_next q call x.0 x.1))
    (begun (fresh_state g n)) calls (kept_begun g n e, λ k i. absurd i)).1 j
