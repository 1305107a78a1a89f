-- The calls on words are taken here by their cases: what is refused leaves the words as they are, since they encode
-- their state and tally alone; what is accepted leaves the words of the state and the tally after it.
use Rattle.std.specs.Prelude.{Result, Ok, Err}
use Prim.Native.Nat.{ℕ, zero, suc, ◌+◌, ◌-◌, ◌%◌, ◌≤◌}
use mathlib.Core.Path.{◌≡◌, refl, sym, ◌∙◌, ap}
use mathlib.Core.List.{List}
use mathlib.Core.Bool.{Bool, true, false, cond, ◌&&◌}
use native.Mathlib.Omega.{arith}
use lib.Dec.{leb, eqb}
use lib.ListN.{length}
use Rattle.std.specs.List.{list_all}
use Rattle.std.proofs.lemmas.List.{drop_all}
use borrow.Author.Tests.{leb-true, le-ltb, eq-eqb, ne_eqb}
use Rattle.base.specs.Every.{every}
use Rattle.base.proofs.Split.{by_eq}
use Rattle.base.proofs.ChoiceLaws.{both}
use Rattle.base.proofs.EveryLaws.{every_both}
use Rattle.table.proofs.RefusalLaws.{search_number}
use Rattle.table.specs.declared.Refusal.{Refusal}
use Rattle.table.specs.declared.Record.{Record}
use Rattle.table.specs.declared.Refusal.TheVariants as refusal
use Rattle.table.specs.Refusals.{told_of, search_gives}
use Rattle.table.specs.Sound.{places, record_fits, sleep_fits}
use Rattle.admission.specs.Verdicts.{admit_of}
use Rattle.decisions.specs.declared.Head.{Head}
use Rattle.decisions.specs.declared.Tick.{Tick}
use Rattle.decisions.specs.declared.Tick.TheVariants.{Run, Slot, Tail}
use Rattle.decisions.specs.Fits.{clock_end, waking_fits, head_fits}
use Rattle.scheduler.specs.States.{head_of, entry_in, record_in, period_before, places_fit, state_fits}
use Rattle.scheduler.specs.Lawful.{LawfulState}
use Rattle.scheduler.specs.Starts.{Given, start_of}
use Rattle.decisions.specs.Ticks.{next_tick}
use Rattle.scheduler.proofs.TickLaws.{tick_is_next}
use Rattle.decisions.specs.Asks.{may_release, may_step}
use Rattle.scheduler.specs.Releases.{release_answer, released_state}
use Rattle.scheduler.specs.Steps.{tick_of, made, step_of}
use Rattle.scheduler.proofs.StateLaws.{fits_says}
use Rattle.node.specs.Layout.{state_size, tally_size, verdict_size, place_start, clock_at, word_in, state_words, entries_in, state_in, tally_in, place_of, place_encoded, encoded}
use Rattle.node.specs.Calls.{packed, told_answer, tick_answer, StateLeft, BothLeft, start_on, admit_on, release_on, moved_on, step_on, words_fit, place_fits_in, places_fit_in, spares_blank}
use Rattle.node.proofs.LayoutLaws.{entry_is, and_true, spare_blank, spares_cut, written_back, tally_written_back}

-- Two tests together fail where one of them fails.
pub no_more : (b : Bool) → b && false ≡ false
no_more true = refl
no_more false = refl

and_assoc : (a b c : Bool) → (a && b) && c ≡ a && (b && c)
and_assoc true b c = refl
and_assoc false b c = refl

-- A head that fits has no more tasks than there are places.
pub few_tasks : (head : Head) (first : Record) → head_fits head first ≡ true → head.n ≤ places
few_tasks head first e =
    let r = leb 1 head.n && leb head.n places in
    let w = (both (r && leb head.clock clock_end && record_fits head.sleep && sleep_fits head.sleep first) (waking_fits head.waking head.sleep) e).0 in
    let x = (both (r && leb head.clock clock_end && record_fits head.sleep) (sleep_fits head.sleep first) w).0 in
    let y = (both (r && leb head.clock clock_end) (record_fits head.sleep) x).0 in
    let z = (both r (leb head.clock clock_end) y).0 in
    leb-true head.n places (both (leb 1 head.n) (leb head.n places) z).1

-- THE PLACES after the n tasks' are spare: they fit exactly where their words are 0.
spare_places : (words : List ℕ) (head : Head) (d : ℕ) → length words ≡ state_size → head.n + d ≤ places
    → places_fit_in words head (head.n + d) && spares_blank words (head.n + d) ≡ places_fit_in words head head.n && spares_blank words head.n
unfolding every
spare_places words head zero long l = let e : head.n + 0 ≡ head.n = omega arith in rw e
spare_places words head (suc d) long l =
    let i = head.n + d in
    let e : head.n + suc d ≡ suc i = omega arith in
    let spare : place_fits_in words head i (period_before (entries_in words) i) ≡ list_all (λ w. eqb w 0) (place_of words i) =
    rw (le-ltb i head.n (omega arith), entry_is words i (omega arith)) (spare_blank words i long (omega arith)) in
    rw (e, spare) (and_assoc (places_fit_in words head i) (list_all (λ w. eqb w 0) (place_of words i)) (spares_blank words (suc i))
    ∙ ap (λ (b : Bool). places_fit_in words head i && b) (sym (spares_cut words i)) ∙ spare_places words head d long (omega arith))

places_parts : (words : List ℕ) (head : Head) → length words ≡ state_size → head.n ≤ places → places_fit_in words head places ≡ places_fit_in words head head.n && spares_blank words head.n
places_parts words head long l =
    let e : head.n + (places - head.n) ≡ places = omega arith in
    let none : spares_blank words places ≡ true = ap (list_all (λ w. eqb w 0)) (drop_all state_size words (omega arith)) in
    sym (and_true (places_fit_in words head places)) ∙ rw none at (rw e at (spare_places words head (places - head.n) long (omega arith)))

-- THE RULES of words are kept by their parts: the head's, then those of the tasks' places, then the spare ones'.
pub fits_parts : (words : List ℕ) → length words ≡ state_size
    → let head = head_of (state_in words) in words_fit words ≡ head_fits head (entry_in (state_in words) 0).task && places_fit_in words head head.n && spares_blank words head.n
unfolding encoded state_fits record_in
fits_parts words long =
    let s = state_in words in
    rw (eq-eqb (length words) state_size long)
    (swap (every (λ i. place_encoded words (place_start i)) places) (head_fits (head_of s) (entry_in s 0).task) (places_fit (head_of s) s.entries)
    ∙ ap (λ (b : Bool). head_fits (head_of s) (entry_in s 0).task && b) (sym (every_both _ _ places))
    ∙ by_head (head_fits (head_of s) (entry_in s 0).task) refl)
  where
    swap : (a b c : Bool) → a && (b && c) ≡ b && (a && c)
    swap true b c = refl
    swap false true c = refl
    swap false false c = refl

    by_head : (b : Bool) → head_fits (head_of (state_in words)) (entry_in (state_in words) 0).task ≡ b
        → b && places_fit_in words (head_of (state_in words)) places ≡ b && places_fit_in words (head_of (state_in words)) (state_in words).n && spares_blank words (state_in words).n
    by_head false e = refl
    by_head true e = places_parts words (head_of (state_in words)) long (few_tasks (head_of (state_in words)) (entry_in (state_in words) 0).task e)

-- Words that fit encode a state, and it keeps its rules.
pub fit_says : (words : List ℕ) → words_fit words ≡ true → (encoded words ≡ true) × LawfulState (state_in words)
fit_says words e =
    let b = both (encoded words) (state_fits (state_in words)) e in
    (b.0, fits_says (state_in words) b.1)

-- What is made of the next tick of words that fit is the tick of their state.
pub tick_is : (words : List ℕ) → words_fit words ≡ true → next_tick (head_of (state_in words)) (entry_in (state_in words)) ≡ tick_of (state_in words)
unfolding record_in
tick_is words f = tick_is_next (state_in words) (omega (arith, (fit_says words f).1.set.room))

-- `release_left` is what a release leaves, by its answer.
abbrev pub release_left : List ℕ → ℕ → ℕ → Result (Unit {0}) Refusal → StateLeft
release_left words task demand (Ok tt) = record { answer = 0; state = state_words (released_state (state_in words) task demand) }
release_left words task demand (Err r) = record { answer = told_answer (told_of r); state = words }

-- `release_on_answer` is a release's answer on words: it asks for number 6, then 7 to 12.
abbrev pub release_on_answer : List ℕ → ℕ → ℕ → Result (Unit {0}) Refusal
release_on_answer words task demand =
    cond (words_fit words) (may_release (head_of (state_in words)) (entry_in (state_in words) (task - 1)) task demand) (Err refusal.Unfit)

-- A RELEASE on words leaves what `release_left` gives by its answer.
pub release_is : (words : List ℕ) (task demand : ℕ) → release_on words task demand ≡ release_left words task demand (release_on_answer words task demand)
unfolding release_on release_answer
release_is words task demand = by_code (encoded words) refl
  where
    by_answer : encoded words ≡ true → (a : Result (Unit {0}) Refusal) → release_answer (state_in words) task demand ≡ a → release_on words task demand ≡ release_left words task demand a
    by_answer e (Ok tt) q = rw (e, q)
    by_answer e (Err r) q = rw (e, q, written_back words e)

    by_code : (b : Bool) → encoded words ≡ b → release_on words task demand ≡ release_left words task demand (release_on_answer words task demand)
    by_code false e = rw e
    by_code true e =
        let same : release_answer (state_in words) task demand ≡ release_on_answer words task demand = rw e in
        by_answer e (release_answer (state_in words) task demand) refl ∙ ap (release_left words task demand) same

-- `step_left` is what a step leaves, by its answer.
abbrev pub step_left : List ℕ → List ℕ → Result (Unit {0}) Refusal → BothLeft
step_left words tally (Ok tt) = moved_on (made (state_in words) (tally_in tally) (tick_of (state_in words)))
step_left words tally (Err r) = record { answer = told_answer (told_of r); state = words; tally = tally }

-- `step_on_answer` is a step's answer on words: it asks for number 6, then 7.
abbrev pub step_on_answer : List ℕ → List ℕ → Result (Unit {0}) Refusal
step_on_answer words tally = may_step (words_fit words) (tally_in tally) (word_in words clock_at)

-- A STEP on words leaves what `step_left` gives by its answer, with a tally of as many words as it has; with another it
-- gets 6.
pub step_is : (words tally : List ℕ) → length tally ≡ tally_size → step_on words tally ≡ step_left words tally (step_on_answer words tally)
unfolding step_on step_of
step_is words tally l = by_code (encoded words) refl
  where
    by_answer : encoded words ≡ true → (a : Result (Unit {0}) Refusal) → may_step (state_fits (state_in words)) (tally_in tally) (word_in words clock_at) ≡ a → step_on words tally ≡ step_left words tally a
    by_answer e (Ok tt) q = rw (e, eq-eqb (length tally) tally_size l, q)
    by_answer e (Err r) q = rw (e, eq-eqb (length tally) tally_size l, q, written_back words e, tally_written_back tally l)

    by_code : (b : Bool) → encoded words ≡ b → step_on words tally ≡ step_left words tally (step_on_answer words tally)
    by_code false e = rw e
    by_code true e =
        let same : may_step (state_fits (state_in words)) (tally_in tally) (word_in words clock_at) ≡ step_on_answer words tally = rw e in
        by_answer e (may_step (state_fits (state_in words)) (tally_in tally) (word_in words clock_at)) refl ∙ ap (step_left words tally) same

pub step_short : (words tally : List ℕ) → (length tally ≡ tally_size → ⊥) → step_on words tally ≡ step_left words tally (Err refusal.Unfit)
unfolding step_on
step_short words tally n = rw (ne_eqb (length tally) tally_size n, no_more (encoded words))

-- Words of another number than a state's encode no state.
pub not_fitting : (words : List ℕ) → (length words ≡ state_size → ⊥) → words_fit words ≡ false
unfolding encoded
not_fitting words n = rw (ne_eqb (length words) state_size n)

-- AN ANSWER WITH A NUMBER, to a release or a step, leaves the words.
pub release_leaves : (words : List ℕ) (task demand : ℕ) → 1 ≤ (release_on words task demand).answer % 256 → (release_on words task demand).state ≡ words
release_leaves words task demand r = rw (release_is words task demand) (go (release_on_answer words task demand) (rw (release_is words task demand) at r))
  where
    go : (a : Result (Unit {0}) Refusal) → 1 ≤ (release_left words task demand a).answer % 256 → (release_left words task demand a).state ≡ words
    go (Ok tt) l = absurd (let z : ⊥ = omega arith in z)
    go (Err f) l = refl

pub step_leaves : (words tally : List ℕ) → 1 ≤ (step_on words tally).answer % 256 → ((step_on words tally).state ≡ words) × ((step_on words tally).tally ≡ tally)
step_leaves words tally r = by_eq (length tally) tally_size (((step_on words tally).state ≡ words) × ((step_on words tally).tally ≡ tally))
    (λ l. rw (step_is words tally l) (go (step_on_answer words tally) (rw (step_is words tally l) at r)))
    (λ n. rw (step_short words tally n) (refl, refl))
  where
    none : (tick : Tick) → 1 ≤ tick_answer tick % 256 → ⊥
    none (Run k) l = let e : tick_answer (Run k) % 256 ≡ 0 = omega arith in omega arith
    none Slot l = omega arith
    none Tail l = omega arith

    go : (a : Result (Unit {0}) Refusal) → 1 ≤ (step_left words tally a).answer % 256 → ((step_left words tally a).state ≡ words) × ((step_left words tally a).tally ≡ tally)
    go (Ok tt) l = absurd (none (tick_of (state_in words)) l)
    go (Err f) l = (refl, refl)

-- An answer with a number leaves the words at a start too, and at an admission but for number 5.
pub start_leaves : (g : Given) (words : List ℕ) → 1 ≤ (start_on g words).answer % 256 → (start_on g words).state ≡ words
start_leaves g words r = go (start_of g).answer refl (eqb (length words) state_size) refl
  where
    go : (a : Result (Unit {0}) Refusal) → (start_of g).answer ≡ a → (b : Bool) → eqb (length words) state_size ≡ b → (start_on g words).state ≡ words
    go (Err f) q b e = rw q
    go (Ok tt) q false e = rw (q, e)
    go (Ok tt) q true e = let z : 1 ≤ 0 % 256 = rw (q, e) at r in absurd (let y : ⊥ = omega arith in y)

pub admit_leaves : (table words : List ℕ) → 1 ≤ (admit_on table words).answer % 256 → ((admit_on table words).answer % 256 ≡ 5 → ⊥) → (admit_on table words).verdict ≡ words
admit_leaves table words r n = go (admit_of table).answer refl (eqb (length words) verdict_size) refl
  where
    go : (a : Result ℕ Refusal) → (admit_of table).answer ≡ a → (b : Bool) → eqb (length words) verdict_size ≡ b → (admit_on table words).verdict ≡ words
    go (Ok k) q false e = rw (q, e)
    go (Ok k) q true e = let z : 1 ≤ packed 0 k 0 % 256 = rw (q, e) at r in absurd (let y : ⊥ = omega arith in y)
    go (Err f) q b e = by_search (search_gives f) refl
      where
        by_search : (x : Bool) → search_gives f ≡ x → (admit_on table words).verdict ≡ words
        by_search false none = rw (q, none)
        by_search true some =
            let five = search_number f some in
            absurd (n (rw q (let z : told_answer (told_of f) % 256 ≡ 5 = omega arith in z)))
