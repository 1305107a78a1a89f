-- The waking length is read in two places only: in the test of a state's rules, which it passes along a history, and
-- where a slot tick is counted. So two histories with the same calls go the same way, and their tallies differ at most
-- in how slot ticks are split.
use Rattle.std.specs.Prelude.{Result, Ok, Err}
use Prim.Native.Nat.{ℕ, ◌-◌, ◌%◌, ◌<◌}
use mathlib.Core.Path.{◌≡◌, refl, ap, sym, subst, ◌∙◌}
use mathlib.Core.List.{List, [], ◌∷◌}
use mathlib.Core.Bool.{true}
use native.Mathlib.Omega.{arith}
use borrow.Author.Tests.{lt-leb}
use Rattle.base.specs.Fold.{folded}
use Rattle.base.proofs.FirstLaws.{first_same}
use Rattle.base.proofs.FoldLaws.{folded_keeps}
use Rattle.table.specs.declared.Refusal.{Refusal}
use Rattle.decisions.specs.declared.Job.{Job}
use Rattle.decisions.specs.declared.Job.TheVariants.{Resting, Working}
use Rattle.scheduler.specs.declared.State.{State}
use Rattle.decisions.specs.declared.Head.{Head}
use Rattle.decisions.specs.declared.Tally.{Tally}
use Rattle.decisions.specs.declared.Tick.{Tick}
use Rattle.decisions.specs.declared.Tick.TheVariants.{Run, Slot, Tail}
use Rattle.scheduler.specs.declared.Moved.{Moved}
use Rattle.decisions.specs.Fits.{total}
use Rattle.decisions.specs.Asks.{ask_demand, ask_task, may_release, may_step}
use Rattle.decisions.specs.Ticks.{may_run, count_of}
use Rattle.scheduler.specs.States.{head_of, entry_in, with_waking}
use Rattle.scheduler.specs.Lawful.{LawfulState}
use Rattle.scheduler.specs.Releases.{release_answer}
use Rattle.scheduler.specs.Steps.{tick_of, after_tick, raised, step_from, step_of}
use Rattle.histories.specs.History.{Call, release, step, lend, Finish, Past, finished, stepped, next, after}
use Rattle.histories.specs.Waking.{with_split, SplitAlone}
use Rattle.scheduler.proofs.StateLaws.{says_fits}
use Rattle.scheduler.proofs.TickLaws.{TickIs, slots, runs, tails, tick_is}
use Rattle.scheduler.proofs.StepLaws.{StepIs, moves, stays, step_is, step_made}
use Rattle.scheduler.proofs.AnswerLaws.{step_ticks_exactly}
use Rattle.histories.proofs.HistoryLaws.{Kept, slot_raised, kept_next}

-- Two states that keep their rules and differ in the waking length alone answer a release alike.
pub release_same : (s : State) (v task demand : ℕ) → LawfulState s → LawfulState (with_waking s v)
    → release_answer (with_waking s v) task demand ≡ release_answer s task demand
unfolding release_answer may_release ask_task ask_demand
release_same s v task demand L M = rw (says_fits s L, says_fits (with_waking s v) M)

-- The next tick of two such states is the same.
may_run_same : (s : State) (v : ℕ) (job : Job) → may_run (head_of (with_waking s v)) job ≡ may_run (head_of s) job
may_run_same s v Resting = refl
may_run_same s v (Working a l) = refl

tick_same : (s : State) (v : ℕ) → tick_of (with_waking s v) ≡ tick_of s
tick_same s v =
    rw (first_same (λ i. may_run (head_of (with_waking s v)) (entry_in s i).job) (λ i. may_run (head_of s) (entry_in s i).job) s.n 0 (λ m p l. may_run_same s v (entry_in s m).job))

-- The state after a tick is the same, but for its waking length.
after_same : (s : State) (v : ℕ) (tick : Tick) → after_tick (with_waking s v) tick ≡ with_waking (after_tick s tick) v
after_same s v (Run k) = refl
after_same s v Slot = refl
after_same s v Tail = refl

-- A tick raises the same count of both tallies, or one that the other splits differently.
split_raised : (h k : Head) (tick : Tick) (t u : Tally) → SplitAlone t u → SplitAlone (raised t (count_of h tick)) (raised u (count_of k tick))
split_raised h k (Run task) t u S = record { runs_same = omega (arith, S.runs_same); tails_same = S.tails_same; slots_same = S.slots_same }
split_raised h k Tail t u S = record { runs_same = S.runs_same; tails_same = omega (arith, S.tails_same); slots_same = S.slots_same }
split_raised h k Slot t u S =
    let A = slot_raised h t in
    let B = slot_raised k u in
    record {
      runs_same = B.runs_stay ∙ S.runs_same ∙ sym A.runs_stay;
      tails_same = B.tails_stay ∙ S.tails_same ∙ sym A.tails_stay;
      slots_same = omega (arith, A.slots_up, B.slots_up, S.slots_same);
    }

pub total_same : (t u : Tally) → SplitAlone t u → total u ≡ total t
total_same t u S = omega (arith, S.runs_same, S.tails_same, S.slots_same)

-- What a step of two such states gives, where the tallies lent to them have the same sum: the same answer, and the same
-- state but for its waking length; and where the tallies differ in the split alone, so do those that it leaves.
pub record StepsSame (s : State) (v : ℕ) (t u : Tally) : Type 0 where
  pub answer_same : (step_of (with_waking s v) u).answer ≡ (step_of s t).answer
  pub state_same : (step_of (with_waking s v) u).state ≡ with_waking (step_of s t).state v
  pub split_kept : SplitAlone t u → SplitAlone (step_of s t).tally (step_of (with_waking s v) u).tally

pub steps_same : (s : State) (v : ℕ) (t u : Tally) → LawfulState s → LawfulState (with_waking s v) → total u ≡ total t → StepsSame s v t u
unfolding step_of
steps_same s v t u L M e = go (may_step true t s.clock) (rw (says_fits s L)) (rw (says_fits (with_waking s v) M, e))
  where
    go : (a : Result (Unit {0}) Refusal) → step_of s t ≡ step_from s t a → step_of (with_waking s v) u ≡ step_from (with_waking s v) u a → StepsSame s v t u
    go (Ok tt) p q = record {
      answer_same = rw (p, q, tick_same s v);
      state_same = rw (p, q, tick_same s v) (after_same s v (tick_of s));
      split_kept = rw (p, q, tick_same s v) (split_raised (head_of s) (head_of (with_waking s v)) (tick_of s) t u);
    }
    go (Err r) p q = record { answer_same = rw (p, q); state_same = rw (p, q); split_kept = rw (p, q) (λ S. S) }

-- A finish is noted alike.
finished_same : (s : State) (v : ℕ) (list : List Finish) (answer : Result Tick Refusal) → finished (with_waking s v) list answer ≡ finished s list answer
finished_same s v list (Ok (Run k)) = refl
finished_same s v list (Ok Slot) = refl
finished_same s v list (Ok Tail) = refl
finished_same s v list (Err r) = refl

-- Two pasts go the same way where they differ in the waking length and the split alone.
pub record GoesSame (v : ℕ) (p q : Past) : Type 0 where
  pub same : q ≡ with_split p v q.tally
  pub split : SplitAlone p.tally q.tally

-- One call more leaves two such pasts so.
stepped_same : (p : Past) (v : ℕ) (u lent other own mine : Tally) → StepsSame p.state v lent other → stepped (with_split p v u) other mine ≡ with_split (stepped p lent own) v mine
stepped_same p v u lent other own mine S =
    rw (S.answer_same, S.state_same, finished_same p.state v p.finishes (step_of p.state lent).answer)

same_next : (p : Past) (v : ℕ) (u : Tally) (call : Call) → LawfulState p.state → LawfulState (with_waking p.state v) → SplitAlone p.tally u
    → GoesSame v (next p call) (next (with_split p v u) call)
unfolding next
same_next p v u (release task demand) L M S = go (release_answer p.state task demand) refl
  where
    go : (a : Result (Unit {0}) Refusal) → release_answer p.state task demand ≡ a → GoesSame v (next p (release task demand)) (next (with_split p v u) (release task demand))
    go (Ok tt) e = rw (release_same p.state v task demand L M, e) (record { same = refl; split = S })
    go (Err r) e = rw (release_same p.state v task demand L M, e) (record { same = refl; split = S })
same_next p v u step L M S =
    let T = steps_same p.state v p.tally u L M (total_same p.tally u S) in
    record { same = stepped_same p v u p.tally u (step_of p.state p.tally).tally (step_of (with_waking p.state v) u).tally T; split = T.split_kept S }
same_next p v u (lend t) L M S =
    record { same = stepped_same p v u t t p.tally u (steps_same p.state v t t L M refl); split = S }

-- EVERY LIST OF CALLS leaves two such pasts so.
pub same_after : (p q : Past) (v : ℕ) (calls : List Call) → Kept p → Kept q → GoesSame v p q → GoesSame v (after p calls) (after q calls)
unfolding folded
same_after p q v [] K J G = G
same_after p q v (call ∷ calls) K J G =
    let lawful : LawfulState (with_waking p.state v) = subst LawfulState (ap {A = Past} (λ x. x.state) G.same) J.lawful_state in
    let one : GoesSame v (next p call) (next q call) =
    subst (λ (x : Past). GoesSame v (next p call) (next x call)) (sym G.same) (same_next p v q.tally call K.lawful_state lawful G.split) in
    same_after (next p call) (next q call) v calls (kept_next p call K) (kept_next q call J) one

-- No call changes the waking length.
tick_stays : (s : State) (tick : Tick) → (after_tick s tick).waking ≡ s.waking
tick_stays s (Run k) = refl
tick_stays s Slot = refl
tick_stays s Tail = refl

step_stays : (s : State) (t : Tally) → (step_of s t).state.waking ≡ s.waking
step_stays s t = go (step_is s t)
  where
    go : StepIs s t → (step_of s t).state.waking ≡ s.waking
    go (moves m q) = rw q (tick_stays s (tick_of s))
    go (stays r q) = rw q

next_stays : (p : Past) (call : Call) → (next p call).state.waking ≡ p.state.waking
unfolding next
next_stays p (release task demand) = go (release_answer p.state task demand) refl
  where
    go : (a : Result (Unit {0}) Refusal) → release_answer p.state task demand ≡ a → (next p (release task demand)).state.waking ≡ p.state.waking
    go (Ok tt) q = rw q
    go (Err r) q = rw q
next_stays p step = step_stays p.state p.tally
next_stays p (lend t) = step_stays p.state t

pub after_stays : (p : Past) (calls : List Call) → (after p calls).state.waking ≡ p.state.waking
after_stays p calls = folded_keeps (λ (q : Past). q.state.waking ≡ p.state.waking) next (λ q call e. next_stays q call ∙ e) p calls refl

-- What a step that answers a tick leaves in the tally.
pub tick_counts : (s : State) (t : Tally) (tick : Tick) → (step_of s t).answer ≡ Ok tick → (step_of s t).tally ≡ raised t (count_of (head_of s) tick)
tick_counts s t tick e =
    let k = (step_ticks_exactly s t tick).0 e in
    ap {A = Moved} (λ m. m.tally) (step_made s t k.0.lawful_state k.0.counted k.1) ∙ ap (λ (x : Tick). raised t (count_of (head_of s) x)) k.2

-- With V = 0 no tick raises the waking count.
record NoneWaking (p : Past) : Type 0 where
  zero_length : p.state.waking ≡ 0
  none_counted : p.tally.waking ≡ 0

none_raised : (s : State) (t : Tally) → s.waking ≡ 0 → t.waking ≡ 0 → TickIs s → (raised t (count_of (head_of s) (tick_of s))).waking ≡ 0
none_raised s t z c (slots a e) =
    let soon : s.clock % s.sleep.period < s.sleep.work - s.waking = omega arith in
    rw (e, lt-leb _ _ soon) c
none_raised s t z c (runs a b e) = rw e c
none_raised s t z c (tails a b e) = rw e c

none_step : (s : State) (t : Tally) → s.waking ≡ 0 → t.waking ≡ 0 → (step_of s t).tally.waking ≡ 0
none_step s t z c = go (step_is s t)
  where
    go : StepIs s t → (step_of s t).tally.waking ≡ 0
    go (moves m q) = rw q (none_raised s t z c (tick_is s))
    go (stays r q) = rw q c

none_next : (p : Past) (call : Call) → NoneWaking p → NoneWaking (next p call)
unfolding next
none_next p call N = record { zero_length = next_stays p call ∙ N.zero_length; none_counted = go call }
  where
    go : (c : Call) → (next p c).tally.waking ≡ 0
    go (release task demand) = N.none_counted
    go step = none_step p.state p.tally N.zero_length N.none_counted
    go (lend t) = N.none_counted

pub none_after : (p : Past) (calls : List Call) → p.state.waking ≡ 0 → p.tally.waking ≡ 0 → (after p calls).tally.waking ≡ 0
none_after p calls z c = (folded_keeps NoneWaking next none_next p calls (record { zero_length = z; none_counted = c })).none_counted
