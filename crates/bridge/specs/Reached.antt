-- The worst pattern reaches each figure exactly, and shows the first task without a window late.
use Prim.Native.Nat.{ℕ, zero, suc, ◌+◌, ◌-◌, ◌*◌, ◌≤◌, ◌<◌}
use Rattle.std.specs.Prelude.{◌≡◌, List, [], ◌∷◌, ◌++◌, Ok}
use Rattle.std.proofs.Math.Path.{refl}
use Rattle.std.proofs.Common.{ap, sym, subst, ◌∙◌}
use native.Mathlib.Omega.{arith}
use Rattle.base.specs.List.{In}
use Rattle.base.proofs.Split.{by_lt}
use Rattle.base.proofs.FoldLaws.{folded_append}
use Rattle.theory.specs.Rules.{Rules}
use Rattle.theory.specs.Rounds.{Window, Overrun}
use Rattle.theory.specs.Pattern.{offset}
use Rattle.theory.proofs.System as theory
use Rattle.theory.proofs.System.{View, Sound, Reach}
use Rattle.theory.proofs.Reachable.{Fine, reach_fine}
use Rattle.theory.proofs.WindowLaws.{demand_first}
use Rattle.theory.proofs.RoundsLaws.{overrun_none}
use Rattle.theory.proofs.Response.{response}
use Rattle.theory.proofs.Worst.{Pattern, begin, release, tick, pattern_reach, Count, none, some, follows}
use Rattle.theory.proofs.Figures.{reached_before, late}
use Rattle.theory.proofs.Free.{Free, windowed, one_job}
use Rattle.table.specs.Bytes.{record_at, records_in}
use Rattle.table.specs.Set.{rules_of}
use Rattle.table.proofs.SetLaws.{works_small}
use Rattle.table.proofs.SetLaws as set
use Rattle.table.specs.Times.{waiting}
use Rattle.admission.specs.Figure.{limit, figure}
use Rattle.decisions.specs.declared.Job.{Job}
use Rattle.decisions.specs.declared.Job.TheVariants.{Resting, Working}
use Rattle.decisions.specs.Fits.{clock_end}
use Rattle.scheduler.specs.States.{entry_in}
use Rattle.scheduler.specs.Starts.{Given, read_given, fresh_state}
use Rattle.scheduler.proofs.GivenLaws.{given_set}
use Rattle.histories.specs.History.{Call, step, Taken, Past, next, after, begun, AtWork}
use Rattle.histories.specs.Jobs.{Standing, done, going, FinishesAt}
use Rattle.histories.specs.Pattern.{releases_at, worst_pattern}
use Rattle.histories.proofs.HistoryLaws.{history_kept}
use Rattle.histories.proofs.JobLaws.{stands_after}
use Rattle.bridge.specs.Views.{job_view, view_of, job_back, last_back}
use Rattle.bridge.specs.Runs.{rules_sound}
use Rattle.bridge.specs.Worst.{offsets, InTick, pattern_runs}

-- `patterned` is what the calls of the pattern make of a fresh start.
abbrev pub patterned : Given → ℕ → ℕ → ℕ → Past
patterned g n m t = after (begun (fresh_state g n)) (worst_pattern (rules_of g.table) m t)

-- A run in which the tasks up to m follow the pattern is one in which those up to i do, where i is at most m.
fewer : (R : Rules) (o : ℕ → ℕ) (m i : ℕ) (v : View) → i ≤ m → Pattern R o m v → Pattern R o i v
fewer R o m i v l (begin f) = begin f
fewer R o m i v l (release {v = u} j d p r f) = release j d (fewer R o m i u l p) r (λ lj. f (omega arith))
fewer R o m i v l (tick {v = u} p t f) = tick (fewer R o m i u l p) t (λ j lj. f j (omega arith))

module _ (g : Given) (n : ℕ) (e : read_given g ≡ Ok n) where
  abbrev R : Rules
  R = rules_of g.table

  ok : Sound R
  ok = rules_sound g n e

  -- Offset and wait make H.
  pub offset_wait : (i : ℕ) → offset R i + R.wait i ≡ R.H
  unfolding offset waiting
  offset_wait zero = omega arith
  offset_wait (suc i) = omega (arith, ok.room)

  -- No wait is longer than the period.
  pub wait_within : (i : ℕ) → i < n → R.wait i ≤ R.T i
  wait_within i l = let S = given_set g n e in set.wait_within (record_at g.table) (records_in g.table - 1) S.set i (omega (arith, S.tasks))

  -- H and the periods are small.
  small : (i : ℕ) → (R.H ≤ 60000) × (R.T i ≤ 60000)
  small i =
      let S = given_set g n e in
      ((S.set.lawful_at 0 (omega arith)).small, (works_small (record_at g.table) (records_in g.table - 1) S.set i).2)

  -- A task with a window is never in the way of its own release.
  windowed_free : (i w t : ℕ) → i < n → Window R i (limit R i) w → Free R (offset R) i t
  windowed_free i w t l W = windowed w (record { some = W.some; fits = W.fits }) (omega (arith, W.within, wait_within i l))

  -- THE FIRST JOB OF TASK i is at work until its figure is over, where the tasks up to m follow the pattern and each of
  -- them has a window.
  pub works_until : (m i w t : ℕ) (W : (k : ℕ) → k ≤ m → (x : ℕ) × Window R k (limit R k) x) → m < n → i ≤ m → Window R i (limit R i) w
      → offset R i < t → t < offset R i + figure R i w
      → AtWork (patterned g n (suc m) t) i (offset R i) t
  works_until m i w t Ws lm li W later early =
      let I = pattern_runs g n e m lm t (omega (arith, small i, W.within, offset_wait i)) (λ s k ls lk. windowed_free k (Ws k lk).0 s (omega arith) (Ws k lk).1) in
      let v = view_of (patterned g n (suc m) t).state in
      let r = reached_before R (offset R) i w v ok (offsets g n e m lm) (fewer R (offset R) m i v li I.pattern)
      W.least (omega (arith, I.clock_is)) (omega (arith, I.clock_is, offset_wait i)) in
      record {
        none_refused = I.accepted;
        clock_is = I.clock_is;
        left = r.0;
        some = r.1;
        working = job_back (entry_in (patterned g n (suc m) t).state i).job (offset R i) r.0 r.2;
      }

  -- Task i rests when the figure of its first job is over, where the tasks up to m follow the pattern and have windows.
  pub rests_then : (m i w : ℕ) (W : (k : ℕ) → k ≤ m → (x : ℕ) × Window R k (limit R k) x) → m < n → i ≤ m → Window R i (limit R i) w
      → (entry_in (patterned g n (suc m) (offset R i + figure R i w)).state i).job ≡ Resting
  unfolding Fine
  rests_then m i w Ws lm li W = go (entry_in p.state i).job refl
    where
      t : ℕ
      t = offset R i + figure R i w

      p : Past
      p = patterned g n (suc m) t

      I : InTick g n e m lm t 0 p
      I = pattern_runs g n e m lm t (omega (arith, small i, W.within, offset_wait i)) (λ s k ls lk. windowed_free k (Ws k lk).0 s (omega arith) (Ws k lk).1)

      P : Pattern R (offset R) i (view_of p.state)
      P = fewer R (offset R) m i (view_of p.state) li I.pattern

      early : w + R.wait i ≤ R.T i
      early = omega (arith, W.within, wait_within i (omega (arith, lm, li)))

      reach : Reach R (view_of p.state)
      reach = pattern_reach R (offset R) i (view_of p.state) P

      go : (J : Job) → (entry_in p.state i).job ≡ J → (entry_in p.state i).job ≡ Resting
      go Resting q = q
      go (Working a l) q = by_count ((follows R (offset R) i (view_of p.state) ok (offsets g n e m lm) P).counts i (omega arith))
        where
          is_last : (view_of p.state).last i ≡ theory.at a
          is_last = (reach_fine R (view_of p.state) reach i a l (ap job_view q)).last_is

          younger : t < a + (w + R.wait i)
          younger = omega (arith, I.clock_is, response R i w (view_of p.state) a l ok W.some W.fits reach (ap job_view q))

          before : a < t
          before = I.rest i a (omega arith) (last_back (entry_in p.state i).last a is_last)

          by_m : (c x : ℕ) → 1 ≤ c → x + R.T i ≡ offset R i + c * R.T i → x ≡ a → (entry_in p.state i).job ≡ Resting
          by_m zero x one sum same = absurd (let z : ⊥ = omega arith in z)
          by_m (suc zero) x one sum same = absurd (let z : ⊥ = omega (arith, younger) in z)
          by_m (suc (suc k)) x one sum same = absurd (let z : ⊥ = omega (arith, before, early) in z)

          by_count : {c : ℕ} → Count R (offset R) (view_of p.state) i c → (entry_in p.state i).job ≡ Resting
          by_count (none never z l) = let y : ◌≡◌ {A = ℕ} 0 1 = cc is_last in absurd (let x : ⊥ = omega arith in x)
          by_count {c} (some x at_x past one sum l) = let same : x ≡ a = cc is_last in by_m c x one sum same

  -- THE FINISH of task i's first job stands in the list at release + figure, and none of the calls is refused: the last
  -- tick before that ran its last unit.
  pub finishes_then : (m i w : ℕ) (W : (k : ℕ) → k ≤ m → (x : ℕ) × Window R k (limit R k) x) → m < n → i ≤ m → Window R i (limit R i) w
      → FinishesAt (patterned g n (suc m) (offset R i + figure R i w)) i (offset R i) (offset R i + figure R i w)
  unfolding worst_pattern
  finishes_then m i w Ws lm li W = record { none_refused = I.accepted; clock_is = I.clock_is; noted = by_standing stands }
    where
      end : ℕ
      end = offset R i + figure R i w

      I : InTick g n e m lm end 0 (patterned g n (suc m) end)
      I = pattern_runs g n e m lm end (omega (arith, small i, W.within, offset_wait i)) (λ s k ls lk. windowed_free k (Ws k lk).0 s (omega arith) (Ws k lk).1)

      -- A window holds the work of the task and one slot, so it is 2 ticks at least.
      long : 2 ≤ w
      long = omega (arith, W.fits, demand_first R i w ok W.some, ok.work i, ((given_set g n e).set.lawful_at 0 (omega arith)).some)

      -- This is the last clock at which the job is at work.
      t : ℕ
      t = offset R i + figure R i w - 1

      last : suc t ≡ end
      last = omega (arith, long)

      p : Past
      p = patterned g n (suc m) t

      A : AtWork p i (offset R i) t
      A = works_until m i w t Ws lm li W (omega (arith, long)) (omega (arith, long))

      job : Taken
      job = record { place = i; at = offset R i; demand = R.C i }

      calls : List Call
      calls = releases_at R (suc m) t ++ step ∷ []

      on : after p calls ≡ patterned g n (suc m) (suc t)
      on = sym (folded_append next (begun (fresh_state g n)) (worst_pattern R (suc m) t) calls)

      stands : Standing (patterned g n (suc m) end).state (patterned g n (suc m) end).finishes t job
      stands = subst (λ (c : ℕ). Standing (patterned g n (suc m) c).state (patterned g n (suc m) c).finishes t job) last
          (subst (λ (q : Past). Standing q.state q.finishes t job) on
          (stands_after t job p calls (history_kept g n (worst_pattern R (suc m) t) e) (going A.left (omega (arith, A.clock_is)) A.working)))

      by_standing : Standing (patterned g n (suc m) end).state (patterned g n (suc m) end).finishes t job
          → In (record { place = i; release = offset R i; at = end }) (patterned g n (suc m) end).finishes
      by_standing (done D) = let same : D.at ≡ end = omega (arith, D.later, D.in_time, I.clock_is, last) in rw same at D.noted
      by_standing (going l from q) =
          let w : Resting ≡ Working (offset R i) l = sym (rests_then m i w Ws lm li W) ∙ q in
          let z : ◌≡◌ {A = ℕ} 0 1 = cc in absurd (let y : ⊥ = omega arith in y)

  -- A TASK WITHOUT A WINDOW is at work on its first job at release + T, where all before it have one.
  pub late_then : (f k : ℕ) (W : (j : ℕ) → j < f → (x : ℕ) × Window R j (limit R j) x) → f < n → Overrun R f (limit R f) k
      → AtWork (patterned g n (suc f) (offset R f + R.T f)) f (offset R f) (offset R f + R.T f)
  late_then f k Ws lf P = record {
    none_refused = I.accepted;
    clock_is = I.clock_is;
    left = r.0;
    some = r.1;
    working = job_back (entry_in p.state f).job (offset R f) r.0 r.2;
  }
    where
      t : ℕ
      t = offset R f + R.T f

      p : Past
      p = patterned g n (suc f) t

      I : InTick g n e f lf t 0 p
      I = pattern_runs g n e f lf t (omega (arith, small f, offset_wait f)) (λ s j ls lj. by_lt j f (Free R (offset R) j s)
          (λ lt. windowed_free j (Ws j lt).0 s (omega arith) (Ws j lt).1)
          (λ ge. let same : j ≡ f = omega arith in rw same (one_job (omega arith))))

      r : (l : ℕ) × (1 ≤ l) × ((view_of p.state).job f ≡ theory.working (offset R f) l)
      r = late R (offset R) f (R.T f) (view_of p.state) ok (offsets g n e f lf) I.pattern (ok.period f)
          (λ x lx fits. overrun_none R f (limit R f) k ok P x (omega (arith, offset_wait f, wait_within f lf)) fits) I.clock_is

  -- EVERY CALL of the pattern up to the clock's end is accepted where every task has a window.
  pub all_accepted : (t : ℕ) (W : (j : ℕ) → j < n → (x : ℕ) × Window R j (limit R j) x) → t ≤ clock_end
      → ((patterned g n n t).refusals ≡ 0) × ((patterned g n n t).state.clock ≡ t)
  all_accepted t Ws l =
      let some : 1 ≤ n = omega (arith, (given_set g n e).set.some, (given_set g n e).tasks) in
      let last : suc (n - 1) ≡ n = omega arith in
      let I = pattern_runs g n e (n - 1) (omega arith) t l (λ s k ls lk. windowed_free k (Ws k (omega arith)).0 s (omega arith) (Ws k (omega arith)).1) in
      (rw last at I.accepted, rw last at I.clock_is)
