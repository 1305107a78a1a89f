-- A state passes the test of its rules exactly when it keeps them.
use Rattle.std.specs.Prelude.{Option, Some, None}
use Prim.Native.Nat.{ℕ, zero, suc, ◌+◌, ◌-◌, ◌%◌, ◌≤◌, ◌<◌}
use mathlib.Core.Path.{◌≡◌, refl, ap}
use mathlib.Core.Bool.{true, ◌&&◌}
use native.Mathlib.Numerals.{add-one}
use native.Mathlib.Omega.{arith}
use lib.Dec.{leb, ltb, eqb}
use borrow.Author.Tests.{leb-true, ltb-true, eqb-true, le-leb, lt-ltb, le-ltb, eq-eqb}
use Rattle.base.proofs.Split.{by_lt}
use Rattle.base.proofs.ChoiceLaws.{both}
use Rattle.base.proofs.EveryLaws.{every_says, says_every}
use Rattle.table.specs.declared.Record.{Record}
use Rattle.table.specs.Bytes.{no_record}
use Rattle.table.specs.Sound.{places, record_fits, sleep_fits}
use Rattle.table.specs.Times.{release_time}
use Rattle.table.specs.Rules.{Lawful}
use Rattle.table.proofs.SoundLaws.{record_says, says_record}
use Rattle.decisions.specs.declared.Job.{Job}
use Rattle.decisions.specs.declared.Job.TheVariants.{Resting, Working}
use Rattle.decisions.specs.declared.Entry.{Entry}
use Rattle.decisions.specs.declared.Head.{Head}
use Rattle.scheduler.specs.declared.State.{State}
use Rattle.decisions.specs.Fits.{clock_end, no_entry, zeroed, last_fits, last_is, job_fits, task_fits, rests_never, spare_fits, place_fits, waking_fits, head_fits}
use Rattle.scheduler.specs.States.{head_of, entry_in, record_in, period_before, places_fit, state_fits}
use Rattle.scheduler.specs.Lawful.{LawfulTask, LawfulState}

-- A last release passes its test exactly when it keeps its rules.
last_says : (head : Head) (i : ℕ) (last : Option ℕ) (a : ℕ) → last_fits head i last ≡ true → last ≡ Some a → (a ≤ head.clock) × (release_time head.sleep.period i a ≡ true)
last_says head i None a e q = let z : ◌≡◌ {A = ℕ} 0 1 = cc in absurd (let y : ⊥ = omega arith in y)
last_says head i (Some p) a e q =
    let pa : p ≡ a = cc in
    let b = both (leb p head.clock) (release_time head.sleep.period i p) e in
    (rw pa at (leb-true p head.clock b.0), rw pa at b.1)

says_last : (head : Head) (i : ℕ) (last : Option ℕ) → ((a : ℕ) → last ≡ Some a → (a ≤ head.clock) × (release_time head.sleep.period i a ≡ true)) → last_fits head i last ≡ true
says_last head i None f = refl
says_last head i (Some a) f = rw (le-leb a head.clock (f a refl).0) (f a refl).1

-- A job passes its test exactly when it keeps its rules.
is_last_says : (last : Option ℕ) (a : ℕ) → last_is last a ≡ true → last ≡ Some a
is_last_says None a e = let z : ◌≡◌ {A = ℕ} 0 1 = cc in absurd (let y : ⊥ = omega arith in y)
is_last_says (Some p) a e = ap Some (eqb-true p a e)

says_is_last : (last : Option ℕ) (a : ℕ) → last ≡ Some a → last_is last a ≡ true
says_is_last last a e = rw (e, eq-eqb a a refl)

job_says : (c : ℕ) (last : Option ℕ) (job : Job) (a l : ℕ) → job_fits c last job ≡ true → job ≡ Working a l → (1 ≤ l) × (l ≤ c) × (last ≡ Some a)
job_says c last Resting a l e q = let z : ◌≡◌ {A = ℕ} 0 1 = cc in absurd (let y : ⊥ = omega arith in y)
job_says c last (Working b m) a l e q =
    let ab : b ≡ a = cc in
    let ml : m ≡ l = cc in
    let p = both (leb 1 m && leb m c) (last_is last b) e in
    let r = both (leb 1 m) (leb m c) p.0 in
    (rw ml at (leb-true 1 m r.0), rw ml at (leb-true m c r.1), rw ab at (is_last_says last b p.1))

says_job : (c : ℕ) (last : Option ℕ) (job : Job) → ((a l : ℕ) → job ≡ Working a l → (1 ≤ l) × (l ≤ c) × (last ≡ Some a)) → job_fits c last job ≡ true
says_job c last Resting f = refl
says_job c last (Working a l) f =
    let w = f a l refl in
    rw (le-leb 1 l w.0, le-leb l c w.1) (says_is_last last a w.2)

-- `TaskSays` is what the test of a task's place says.
record TaskSays (s : State) (i : ℕ) : Type 0 where
  lawful_record : Lawful (entry_in s i).task
  ordered : period_before s.entries i ≤ (entry_in s i).task.period
  lawful_task : LawfulTask s i

task_says : (s : State) (i : ℕ) → task_fits (head_of s) i (period_before s.entries i) (entry_in s i) ≡ true → TaskSays s i
task_says s i t =
    let e = entry_in s i in
    let a = both (record_fits e.task && leb (period_before s.entries i) e.task.period && last_fits (head_of s) i e.last) (job_fits e.task.work e.last e.job) t in
    let b = both (record_fits e.task && leb (period_before s.entries i) e.task.period) (last_fits (head_of s) i e.last) a.0 in
    let c = both (record_fits e.task) (leb (period_before s.entries i) e.task.period) b.0 in
    record {
      lawful_record = record_says e.task c.0;
      ordered = leb-true _ _ c.1;
      lawful_task = record {
        last_fits = λ p q. last_says (head_of s) i e.last p b.1 q;
        job_fits = λ p l q. job_says e.task.work e.last e.job p l a.1 q;
      };
    }

says_task : (s : State) (i : ℕ) → TaskSays s i → task_fits (head_of s) i (period_before s.entries i) (entry_in s i) ≡ true
says_task s i T =
    let e = entry_in s i in
    rw (
      says_record e.task T.lawful_record,
      le-leb _ _ T.ordered,
      says_last (head_of s) i e.last T.lawful_task.last_fits,
    )
    (says_job e.task.work e.last e.job T.lawful_task.job_fits)

-- A spare place that passes its test holds a record of zeros, rests and was never released.
rests_says : (job : Job) (last : Option ℕ) → rests_never job last ≡ true → (job ≡ Resting) × (last ≡ None)
rests_says Resting None e = (refl, refl)
rests_says Resting (Some a) e = let z : ◌≡◌ {A = ℕ} 0 1 = cc in absurd (let y : ⊥ = omega arith in y)
rests_says (Working a l) last e = let z : ◌≡◌ {A = ℕ} 0 1 = cc in absurd (let y : ⊥ = omega arith in y)

zeroed_says : (r : Record) → zeroed r ≡ true → r ≡ no_record
zeroed_says r t =
    let a = both (eqb r.label 0 && eqb r.work 0 && eqb r.period 0) (eqb r.reserved 0) t in
    let b = both (eqb r.label 0 && eqb r.work 0) (eqb r.period 0) a.0 in
    let c = both (eqb r.label 0) (eqb r.work 0) b.0 in
    let p = eqb-true r.label 0 c.0 in
    let q = eqb-true r.work 0 c.1 in
    let u = eqb-true r.period 0 b.1 in
    let w = eqb-true r.reserved 0 a.1 in
    same r r.label r.work r.period r.reserved refl p q u w
  where
    same : (r : Record) (a b c d : ℕ) → r ≡ record { label = a; work = b; period = c; reserved = d } → a ≡ 0 → b ≡ 0 → c ≡ 0 → d ≡ 0 → r ≡ no_record
    same r a b c d e p q u w = rw (p, q, u, w) at e

spare_says : (e : Entry) → spare_fits e ≡ true → e ≡ no_entry
spare_says e t =
    let a = both (zeroed e.task) (rests_never e.job e.last) t in
    let b = rests_says e.job e.last a.1 in
    same e e.task e.job e.last refl (zeroed_says e.task a.0) b.0 b.1
  where
    same : (e : Entry) (t : Record) (j : Job) (l : Option ℕ) → e ≡ record { task = t; job = j; last = l } → t ≡ no_record → j ≡ Resting → l ≡ None → e ≡ no_entry
    same e t j l q p u w = rw (p, u, w) at q

-- Record i + 1 is that of the task at place i.
pub record_of : (s : State) (i : ℕ) → record_in s (i + 1) ≡ (entry_in s i).task
unfolding record_in
record_of s i = ap (record_in s) (add-one i)

-- A STATE THAT PASSES THE TEST KEEPS THE RULES.
pub fits_says : (s : State) → state_fits s ≡ true → LawfulState s
unfolding state_fits record_in period_before
fits_says s t =
    record {
      set = record { some = some; lawful_at = lawful_at; ordered = ordered; room = ltb-true _ _ r.0; whole = eqb-true _ _ r.1 };
      few = few;
      in_time = leb-true _ _ c.1;
      waking_fits = leb-true _ _ w.1;
      task = λ i l. (says i l).lawful_task;
      spare = λ i g l. spare_says (entry_in s i) (rw (le-ltb i s.n g) at (all i l));
    }
  where
    h : Head
    h = head_of s

    f : (head_fits h (record_in s 1) ≡ true) × (places_fit h s.entries ≡ true)
    f = both (head_fits h (record_in s 1)) (places_fit h s.entries) t

    w : (leb 1 s.n && leb s.n places && leb s.clock clock_end && record_fits s.sleep && sleep_fits s.sleep (record_in s 1) ≡ true) × (waking_fits s.waking s.sleep ≡ true)
    w = both (leb 1 s.n && leb s.n places && leb s.clock clock_end && record_fits s.sleep && sleep_fits s.sleep (record_in s 1)) (waking_fits s.waking s.sleep) f.0

    e : (leb 1 s.n && leb s.n places && leb s.clock clock_end && record_fits s.sleep ≡ true) × (sleep_fits s.sleep (record_in s 1) ≡ true)
    e = both (leb 1 s.n && leb s.n places && leb s.clock clock_end && record_fits s.sleep) (sleep_fits s.sleep (record_in s 1)) w.0

    d : (leb 1 s.n && leb s.n places && leb s.clock clock_end ≡ true) × (record_fits s.sleep ≡ true)
    d = both (leb 1 s.n && leb s.n places && leb s.clock clock_end) (record_fits s.sleep) e.0

    c : (leb 1 s.n && leb s.n places ≡ true) × (leb s.clock clock_end ≡ true)
    c = both (leb 1 s.n && leb s.n places) (leb s.clock clock_end) d.0

    b : (leb 1 s.n ≡ true) × (leb s.n places ≡ true)
    b = both (leb 1 s.n) (leb s.n places) c.0

    r : (ltb s.sleep.work s.sleep.period ≡ true) × (eqb ((record_in s 1).period % s.sleep.period) 0 ≡ true)
    r = both (ltb s.sleep.work s.sleep.period) (eqb ((record_in s 1).period % s.sleep.period) 0) e.1

    some : 1 ≤ s.n
    some = leb-true _ _ b.0

    few : s.n ≤ places
    few = leb-true _ _ b.1

    all : (i : ℕ) → i < places → place_fits h i (period_before s.entries i) (entry_in s i) ≡ true
    all i l = every_says (λ i. place_fits h i (period_before s.entries i) (entry_in s i)) places i f.1 l

    says : (i : ℕ) → i < s.n → TaskSays s i
    says i l = task_says s i (rw (lt-ltb i s.n l) at (all i (omega (arith, few))))

    lawful_at : (k : ℕ) → k ≤ s.n → Lawful (record_in s k)
    lawful_at zero l = record_says s.sleep d.1
    lawful_at (suc i) l = (says i (omega arith)).lawful_record

    ordered : (k : ℕ) → 2 ≤ k → k ≤ s.n → (record_in s (k - 1)).period ≤ (record_in s k).period
    ordered zero g l = absurd (let z : ⊥ = omega arith in z)
    ordered (suc zero) g l = absurd (let z : ⊥ = omega arith in z)
    ordered (suc (suc i)) g l = let q : suc (suc i) - 1 ≡ suc i = omega arith in rw q (says (suc i) (omega arith)).ordered

-- A STATE THAT KEEPS THE RULES PASSES THE TEST.
pub says_fits : (s : State) → LawfulState s → state_fits s ≡ true
unfolding state_fits record_in period_before
says_fits s L =
    rw (
      le-leb _ _ L.set.some,
      le-leb _ _ L.few,
      le-leb _ _ L.in_time,
      says_record s.sleep (L.set.lawful_at 0 (omega arith)),
      lt-ltb _ _ L.set.room,
      eq-eqb _ _ L.set.whole,
      le-leb _ _ L.waking_fits,
    )
    (says_every (λ i. place_fits (head_of s) i (period_before s.entries i) (entry_in s i)) places (λ i l.
    by_lt i s.n (place_fits (head_of s) i (period_before s.entries i) (entry_in s i) ≡ true)
    (λ lt. rw (lt-ltb i s.n lt) (says_task s i (record { lawful_record = L.set.lawful_at (suc i) (omega arith); ordered = ordered i lt; lawful_task = L.task i lt })))
    (λ ge. rw (le-ltb i s.n ge, L.spare i ge l))))
  where
    ordered : (i : ℕ) → i < s.n → period_before s.entries i ≤ (entry_in s i).task.period
    ordered zero l = omega arith
    ordered (suc i) l =
        let q : suc (suc i) - 1 ≡ suc i = omega arith in
        let o : (record_in s (suc (suc i) - 1)).period ≤ (record_in s (suc (suc i))).period = L.set.ordered (suc (suc i)) (omega arith) (omega arith) in
        rw q at o
