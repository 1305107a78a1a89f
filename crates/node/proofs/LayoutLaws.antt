-- What was written is read back: a state of 16 places is read back as it was, and words that encode a state are written
-- back as they were. So it is with a tally. The words of a state of which one place's are put are those of the state
-- with that entry.
use Rattle.std.specs.Prelude.{Option, Some, None}
use Prim.Native.Nat.{ℕ, zero, suc, ◌+◌, ◌-◌, ◌*◌, ◌/◌, ◌%◌, ◌≤◌, ◌<◌}
use mathlib.Core.Path.{◌≡◌, refl, sym, ◌∙◌, ap}
use mathlib.Core.Logic.{◌⊎◌, inl, inr}
use mathlib.Core.List.{List, [], ◌∷◌, ◌++◌, append_assoc, append-nil}
use mathlib.Core.Bool.{Bool, true, false, ◌&&◌, and-eq-true_iff}
use native.Mathlib.Omega.{arith}
use native.Mathlib.Numerals.{add-one}
use lib.Bits.{bit_or, or_add_and, and_le_l, and_le_r}
use lib.Dec.{eqb}
use lib.ListN.{length, get_or, get_or-eq_default, set, drop, length-append, get_or-append}
use Rattle.std.specs.List.{list_all}
use Rattle.std.proofs.lemmas.List.{length-take-le, length-drop, get_or-take, get_or-drop, drop-drop, take-append-drop}
use Rattle.std.proofs.lemmas.List.Folds.{list_all-append}
use lib.Seq.{get_or-append-add, get_or-set_same, get_or-set_other, ext_get_or}
use borrow.Author.Tests.{eq-eqb, ne_eqb, eqb-true}
use Rattle.base.proofs.Split.{by_eq, by_lt}
use Rattle.base.specs.List.{list_from}
use Rattle.table.specs.declared.Record.{Record}
use Rattle.table.specs.Sound.{places}
use Rattle.admission.specs.declared.Verdict.{Verdict}
use Rattle.admission.specs.declared.Row.{Row}
use Rattle.admission.specs.Verdicts.{no_row}
use Rattle.decisions.specs.declared.Job.{Job}
use Rattle.decisions.specs.declared.Job.TheVariants.{Resting, Working}
use Rattle.decisions.specs.declared.Entry.{Entry}
use Rattle.scheduler.specs.declared.State.{State}
use Rattle.decisions.specs.declared.Count.{Count}
use Rattle.decisions.specs.declared.Count.TheVariants.{Runs, Slots, Tails, Wakings}
use Rattle.decisions.specs.Fits.{no_entry, zeroed, rests_never, spare_fits}
use Rattle.scheduler.specs.States.{entry_in, with_entry, aged, with_entries}
use Rattle.scheduler.specs.Releases.{released_entry}
use Rattle.decisions.specs.Ticks.{worked_of}
use Rattle.scheduler.specs.Steps.{after_run, raised}
use Rattle.base.proofs.EveryLaws.{every_says, says_every}
use Rattle.node.specs.Words.{puts}
use Rattle.node.specs.Layout.{verdict_size, verdict_words, head_size, clock_at, run_at, slot_at, tail_at, wakings_at, label_at, work_at, period_at, reserved_at, job_at, release_at, left_at, last_at, tick_at, place_size, state_size, place_start, tally_size, record_words, job_words, last_words, entry_words, places_words, head_words, state_words, tally_words, word_in, job_from, last_from, entry_from, entries_in, state_in, tally_in, place_of, kind_encoded, place_encoded, encoded}
use Rattle.base.proofs.ListLaws.{length_list, list_at, list_same, list_back}
use Rattle.node.proofs.WordLaws.{length_puts, puts_out, puts_in, puts_more, puts_whole}

-- Words that encode a state are as many as it has, and every place among them is encoded.
pub encoded_length : (words : List ℕ) → encoded words ≡ true → length words ≡ state_size
unfolding encoded
encoded_length words e = eqb-true (length words) state_size ((and-eq-true_iff (eqb (length words) state_size) _).0 e).0

encoded_place : (words : List ℕ) (i : ℕ) → encoded words ≡ true → i < places → place_encoded words (place_start i) ≡ true
unfolding encoded
encoded_place words i e l = every_says (λ i. place_encoded words (place_start i)) places i ((and-eq-true_iff (eqb (length words) state_size) _).0 e).1 l

-- The entry at a place is the one that is read from the place's first word on.
pub entry_is : (words : List ℕ) (i : ℕ) → i < places → get_or (entries_in words) i no_entry ≡ entry_from words (place_start i)
entry_is words i l = list_at (λ i. entry_from words (place_start i)) places i no_entry l

-- THE WORDS OF A PLACE among those of a state are read there as they are in the state.
place_list : (words : List ℕ) (i : ℕ) → length words ≡ state_size → i < places → place_of words i ≡ list_from (λ q. word_in words (place_start i + q)) place_size
place_list words i long l =
    let nine : length (place_of words i) ≡ place_size = length-take-le place_size (drop (place_start i) words) (omega (arith, length-drop (place_start i) words)) in
    sym (list_back (place_of words i) 0) ∙ ap (list_from (word_in (place_of words i))) nine
    ∙ list_same (word_in (place_of words i)) (λ q. word_in words (place_start i + q)) place_size
    (λ q m. get_or-take place_size (drop (place_start i) words) q 0 m ∙ get_or-drop (place_start i) words q 0)

-- A state that was read has its 16 places, and no entry after them.
pub read_whole : (words : List ℕ) → length (state_in words).entries ≡ places
read_whole words = length_list (λ i. entry_from words (place_start i)) places

pub no_place : (words : List ℕ) (i : ℕ) → places ≤ i → get_or (entries_in words) i no_entry ≡ no_entry
no_place words i l = get_or-eq_default (entries_in words) no_entry (omega (arith, read_whole words))

pub entry_at : (words : List ℕ) (i : ℕ) → length words ≡ state_size → i < places → entry_from (place_of words i) 0 ≡ get_or (entries_in words) i no_entry
unfolding list_from
entry_at words i long l = rw (entry_is words i l, place_list words i long l)

pub encoded_at : (words : List ℕ) (i : ℕ) → length words ≡ state_size → i < places → place_encoded (place_of words i) 0 ≡ place_encoded words (place_start i)
unfolding list_from
encoded_at words i long l = rw (place_list words i long l)

-- These laws say how many words a place, some places and a state have.
nine_words : (r : Record) (j : Job) (l : Option ℕ) → length (record_words r ++ job_words j ++ last_words l) ≡ place_size
nine_words r Resting None = refl
nine_words r Resting (Some a) = refl
nine_words r (Working b m) None = refl
nine_words r (Working b m) (Some a) = refl

pub length_entry : (e : Entry) → length (entry_words e) ≡ place_size
length_entry e = nine_words e.task e.job e.last

pub length_places : (es : List Entry) (n : ℕ) → length (places_words es n) ≡ place_size * n
unfolding places_words
length_places es zero = refl
length_places es (suc n) =
    let a = length-append (places_words es n) (entry_words (get_or es n no_entry)) in
    let b = length_places es n in
    let c = length_entry (get_or es n no_entry) in
    omega arith

pub length_state : (s : State) → length (state_words s) ≡ state_size
length_state s = omega (arith, length_places s.entries places)

-- The words of a place stand among those of all places in the order of the places.
places_at : (es : List Entry) (n i q : ℕ) → i < n → q < place_size → get_or (places_words es n) (place_size * i + q) 0 ≡ get_or (entry_words (get_or es i no_entry)) q 0
unfolding places_words
places_at es zero i q l m = absurd (let z : ⊥ = omega arith in z)
places_at es (suc n) i q l m =
    let P = places_words es n in
    let E = entry_words (get_or es n no_entry) in
    by_eq i n (get_or (P ++ E) (place_size * i + q) 0 ≡ get_or (entry_words (get_or es i no_entry)) q 0)
    (λ x. let e : place_size * i + q ≡ length P + q = omega (arith, length_places es n) in
    ap (λ (y : ℕ). get_or (P ++ E) y 0) e ∙ get_or-append-add P E q 0 ∙ ap (λ (y : ℕ). get_or (entry_words (get_or es y no_entry)) q 0) (sym x))
    (λ d. get_or-append P E 0 (place_size * i + q) (omega (arith, length_places es n)) ∙ places_at es n i q (omega arith) m)

-- WORD q OF PLACE i of a state is word q of the entry at that place.
pub place_word : (s : State) (i q : ℕ) → i < places → q < place_size → word_in (state_words s) (place_start i + q) ≡ get_or (entry_words (entry_in s i)) q 0
place_word s i q l m =
    let e : place_start i + q ≡ length (head_words s) + (place_size * i + q) = omega arith in
    ap (λ (y : ℕ). get_or (state_words s) y 0) e ∙ get_or-append-add (head_words s) (places_words s.entries places) (place_size * i + q) 0 ∙ places_at s.entries places i q l m

-- A kind that is encoded is 1, or all three words are 0.
kind_says : (kind a l : ℕ) → kind_encoded kind a l ≡ true → (G : Type 0) → (kind ≡ 1 → G) → (kind ≡ 0 → a ≡ 0 → l ≡ 0 → G) → G
kind_says kind a l e G one none = by_eq kind 1 G one
    (λ n. let z : kind + a + l ≡ 0 = eqb-true (kind + a + l) 0 (rw (ne_eqb kind 1 n) at e) in none (omega arith) (omega arith) (omega arith))

job_words_lem : (kind a l : ℕ) → kind_encoded kind a l ≡ true → job_words (job_from kind a l) ≡ kind ∷ a ∷ l ∷ []
job_words_lem kind a l e = kind_says kind a l e (job_words (job_from kind a l) ≡ kind ∷ a ∷ l ∷ []) (λ one. rw one) (λ x y z. rw (x, y, z))

last_words_lem : (kind a : ℕ) → kind_encoded kind a 0 ≡ true → last_words (last_from kind a) ≡ kind ∷ a ∷ []
last_words_lem kind a e = kind_says kind a 0 e (last_words (last_from kind a) ≡ kind ∷ a ∷ []) (λ one. rw one) (λ x y z. rw (x, y))

-- The words of an entry that was read are those that were there.
entry_words_lem : (words : List ℕ) (k : ℕ) → place_encoded words k ≡ true → entry_words (entry_from words k) ≡ list_from (λ q. word_in words (k + q)) place_size
unfolding list_from
entry_words_lem words k e =
    let b = (and-eq-true_iff (kind_encoded (word_in words (k + job_at)) (word_in words (k + release_at)) (word_in words (k + left_at))) (kind_encoded (word_in words (k + last_at)) (word_in words (k + tick_at)) 0)).0 e in
    let r = record_words (entry_from words k).task in
    ap (λ (js : List ℕ). r ++ js ++ last_words (entry_from words k).last) (job_words_lem (word_in words (k + job_at)) (word_in words (k + release_at)) (word_in words (k + left_at)) b.0)
    ∙ ap (λ (ts : List ℕ). r ++ (word_in words (k + job_at) ∷ word_in words (k + release_at) ∷ word_in words (k + left_at) ∷ []) ++ ts) (last_words_lem (word_in words (k + last_at)) (word_in words (k + tick_at)) b.1)

-- ONE MORE place of a state is put after what was put before it.
pub place_more_put : (words : List ℕ) (s : State) (i : ℕ)
    → puts (puts words 0 (head_words s ++ places_words s.entries i)) (place_start i) (entry_words (entry_in s i)) ≡ puts words 0 (head_words s ++ places_words s.entries (i + 1))
unfolding places_words
place_more_put words s i =
    rw add-one (puts_more words (head_words s ++ places_words s.entries i) (entry_words (entry_in s i)) (place_start i) (omega (arith, length_places s.entries i))
    ∙ ap (puts words 0) (append_assoc (head_words s) (places_words s.entries i) (entry_words (entry_in s i))))

-- ALL WORDS of a state, and of a verdict, are there once their parts are put.
pub state_put : (words : List ℕ) (s : State) → length words ≡ state_size → puts words 0 (state_words s) ≡ state_words s
state_put words s long = puts_whole words (state_words s) (length_state s ∙ sym long)

-- A list comes in two parts: its first m elements, and the n after them.
list_more : {A : Type 0} (f : ℕ → A) (m n : ℕ) → list_from f (m + n) ≡ list_from f m ++ list_from (λ q. f (m + q)) n
unfolding list_from
list_more f m zero = let e : m + 0 ≡ m = omega arith in rw (e, append-nil)
list_more f m (suc n) = let e : m + suc n ≡ suc (m + n) = omega arith in rw e (rw (list_more f m n, append_assoc))

-- `RowPut` says that the parts of the row at place k stand among some words.
pub record RowPut (words : List ℕ) (row : Row) (k : ℕ) : Type 0 where
  pub window : word_in words k ≡ row.window
  pub figure : word_in words (places + k) ≡ row.figure
  pub rounds : word_in words (places + places + k) ≡ row.rounds

pub verdict_put : (words : List ℕ) (v : Verdict) → length words ≡ verdict_size → ((k : ℕ) → k < places → RowPut words (get_or v.rows k no_row) k) → words ≡ verdict_words v
verdict_put words v long put =
    sym (list_back words 0) ∙ ap (list_from (word_in words)) long
    ∙ list_more (word_in words) (places + places) places
    ∙ ap (λ (xs : List ℕ). xs ++ list_from (λ q. word_in words (places + places + q)) places) (list_more (word_in words) places places)
    ∙ rw (
      list_same (word_in words) (λ i. (get_or v.rows i no_row).window) places (λ k l. (put k l).window),
      list_same (λ q. word_in words (places + q)) (λ i. (get_or v.rows i no_row).figure) places (λ k l. (put k l).figure),
      list_same (λ q. word_in words (places + places + q)) (λ i. (get_or v.rows i no_row).rounds) places (λ k l. (put k l).rounds),
    )

-- WORDS THAT ENCODE A STATE are written back as they were, the head first and then place by place.
written : (words : List ℕ) (n : ℕ) → n ≤ places → encoded words ≡ true → head_words (state_in words) ++ places_words (entries_in words) n ≡ list_from (word_in words) (place_start n)
unfolding places_words list_from
written words zero l e = refl
written words (suc n) l e =
    let code = encoded_place words n e l in
    let next : place_start (suc n) ≡ place_start n + place_size = omega arith in
    let place = ap entry_words (entry_is words n l) ∙ entry_words_lem words (place_start n) code in
    sym (append_assoc (head_words (state_in words)) (places_words (entries_in words) n) (entry_words (get_or (entries_in words) n no_entry)))
    ∙ ap (λ (x : List ℕ). x ++ entry_words (get_or (entries_in words) n no_entry)) (written words n (omega arith) e)
    ∙ ap (λ (x : List ℕ). list_from (word_in words) (place_start n) ++ x) place
    ∙ sym (ap (list_from (word_in words)) next ∙ list_more (word_in words) (place_start n) place_size)

pub written_back : (words : List ℕ) → encoded words ≡ true → state_words (state_in words) ≡ words
written_back words e =
    written words places (omega arith) e ∙ rw (← encoded_length words e) (list_back words 0)

-- A STATE THAT WAS WRITTEN IS READ BACK as it was.
entry_back : (s : State) (i : ℕ) → i < places → (entry_from (state_words s) (place_start i) ≡ entry_in s i) × (place_encoded (state_words s) (place_start i) ≡ true)
entry_back s i l =
    let w : (q : ℕ) → q < place_size → word_in (state_words s) (place_start i + q) ≡ get_or (entry_words (entry_in s i)) q 0 = λ q m. place_word s i q l m in
    rw (w 0 (omega arith), w 1 (omega arith), w 2 (omega arith), w 3 (omega arith), w 4 (omega arith), w 5 (omega arith), w 6 (omega arith), w 7 (omega arith), w 8 (omega arith))
    (by_kind (entry_in s i).task (entry_in s i).job (entry_in s i).last)
  where
    by_kind : (t : Record) (j : Job) (l : Option ℕ)
        → (◌≡◌ {A = Entry} (entry_from (record_words t ++ job_words j ++ last_words l) 0) (record { task = t; job = j; last = l }))
        × (place_encoded (record_words t ++ job_words j ++ last_words l) 0 ≡ true)
    by_kind t Resting None = (refl, refl)
    by_kind t Resting (Some a) = (refl, refl)
    by_kind t (Working b m) None = (refl, refl)
    by_kind t (Working b m) (Some a) = (refl, refl)

pub read_back : (s : State) → length s.entries ≡ places → state_in (state_words s) ≡ s
read_back s whole = ap {A = List Entry} {B = State} (λ es. with_entries s es)
    (list_same (λ i. entry_from (state_words s) (place_start i)) (entry_in s) places (λ i l. (entry_back s i l).0) ∙ rw (← whole) (list_back s.entries no_entry))

pub state_encoded : (s : State) → encoded (state_words s) ≡ true
unfolding encoded
state_encoded s =
    rw (eq-eqb (length (state_words s)) state_size (length_state s)) (says_every (λ i. place_encoded (state_words s) (place_start i)) places (λ i l. (entry_back s i l).1))

-- A TALLY that is read from words is written back as those words.
pub tally_written_back : (words : List ℕ) → length words ≡ tally_size → tally_words (tally_in words) ≡ words
unfolding list_from
tally_written_back words e = rw e at (list_back words 0)

-- A PLACE IS PUT into the words of a state, and they are the words of the state with that entry.
pub entry_put : (s : State) (i : ℕ) (e : Entry) → length s.entries ≡ places → i < places → puts (state_words s) (place_start i) (entry_words e) ≡ state_words (with_entry s i e)
entry_put s i e whole l =
    ext_get_or 0 put (state_words t) (length_puts (state_words s) (place_start i) (entry_words e) room ∙ length_state s ∙ sym (length_state t)) (λ m lm. by_lt m head_size (get_or put m 0 ≡ word_in (state_words t) m)
    (λ h. stays m (inl (omega arith)) ∙ get_or-append (head_words s) (places_words s.entries places) 0 m h ∙ sym (get_or-append (head_words s) (places_words t.entries places) 0 m h))
    (λ g. let p = (m - head_size) / place_size in
    let q = (m - head_size) % place_size in
    let split : m ≡ place_start p + q = omega arith in
    rw split (place p q (omega (arith, length_puts (state_words s) (place_start i) (entry_words e) room, length_state s)) (omega arith))))
  where
    t : State
    t = with_entry s i e

    put : List ℕ
    put = puts (state_words s) (place_start i) (entry_words e)

    room : place_start i + length (entry_words e) ≤ length (state_words s)
    room = omega (arith, length_entry e, length_state s)

    stays : (m : ℕ) → (m < place_start i) ⊎ (place_start i + length (entry_words e) ≤ m) → get_or put m 0 ≡ word_in (state_words s) m
    stays = puts_out (state_words s) (place_start i) (entry_words e) room

    place : (p q : ℕ) → p < places → q < place_size → get_or put (place_start p + q) 0 ≡ word_in (state_words t) (place_start p + q)
    place p q lp lq = by_eq p i (get_or put (place_start p + q) 0 ≡ word_in (state_words t) (place_start p + q))
        (λ here. ap (λ (y : ℕ). get_or put (place_start y + q) 0) here
        ∙ puts_in (state_words s) (place_start i) (entry_words e) room q (omega (arith, length_entry e))
        ∙ sym (place_word t p q lp lq ∙ ap (λ (y : Entry). get_or (entry_words y) q 0) (ap (entry_in t) here ∙ get_or-set_same s.entries i e no_entry (omega arith))))
        (λ there. stays (place_start p + q) (by_lt p i ((place_start p + q < place_start i) ⊎ (place_start i + length (entry_words e) ≤ place_start p + q)) (λ b. inl (omega arith)) (λ b. inr (omega (arith, length_entry e))))
        ∙ place_word s p q lp lq
        ∙ sym (place_word t p q lp lq ∙ ap (λ (y : Entry). get_or (entry_words y) q 0) (get_or-set_other s.entries i p e no_entry there)))

-- NO WORD of some is other than 0 exactly where their sum is 0.
total : List ℕ → ℕ
total [] = 0
total (w ∷ ws) = w + total ws

two_blank : (m n : ℕ) → eqb m 0 && eqb n 0 ≡ eqb (m + n) 0
two_blank m n = by_eq m 0 (eqb m 0 && eqb n 0 ≡ eqb (m + n) 0)
    (λ z. let e : 0 + n ≡ n = omega arith in rw (z, e))
    (λ d. rw (ne_eqb m 0 d, ne_eqb (m + n) 0 (λ z. d (omega arith))))

all_blank : (ws : List ℕ) → list_all (λ w. eqb w 0) ws ≡ eqb (total ws) 0
unfolding total
all_blank [] = refl
all_blank (w ∷ ws) = rw (all_blank ws) (two_blank w (total ws))

-- A SPARE PLACE that is encoded has a job and a last release whose words are 0.
rests_blank : (kind a l kind' a' : ℕ) → kind_encoded kind a l && kind_encoded kind' a' 0 ≡ true → rests_never (job_from kind a l) (last_from kind' a') ≡ true
    → kind + a + l + (kind' + a') ≡ 0
rests_blank zero a l zero a' c r =
    let b = (and-eq-true_iff (eqb (0 + a + l) 0) (eqb (0 + a' + 0) 0)).0 c in
    omega (arith, eqb-true (0 + a + l) 0 b.0, eqb-true (0 + a' + 0) 0 b.1)
rests_blank zero a l (suc kind') a' c r = let z : ◌≡◌ {A = ℕ} 0 1 = cc in absurd (let y : ⊥ = omega arith in y)
rests_blank (suc kind) a l kind' a' c r = let z : ◌≡◌ {A = ℕ} 0 1 = cc in absurd (let y : ⊥ = omega arith in y)

-- A place is encoded and spare exactly where the sum of its nine words, a record's, a job's and a last release's, is 0.
nine_blank : (label work period reserved kind a l kind' a' : ℕ)
    → let task : Record = record { label = label; work = work; period = period; reserved = reserved } in
    kind_encoded kind a l && kind_encoded kind' a' 0 && spare_fits (record { task = task; job = job_from kind a l; last = last_from kind' a' })
    ≡ eqb (label + work + period + reserved + kind + a + l + kind' + a') 0
nine_blank label work period reserved kind a l kind' a' = by_eq sum 0 (test ≡ eqb sum 0)
    (λ z. zeros (omega arith) (omega arith) (omega arith) (omega arith) (omega arith) (omega arith) (omega arith) (omega arith) (omega arith) ∙ sym (eq-eqb sum 0 z))
    (λ n. some n test refl ∙ sym (ne_eqb sum 0 n))
  where
    task : Record
    task = record { label = label; work = work; period = period; reserved = reserved }

    sum : ℕ
    sum = label + work + period + reserved + kind + a + l + kind' + a'

    test : Bool
    test = kind_encoded kind a l && kind_encoded kind' a' 0 && spare_fits (record { task = task; job = job_from kind a l; last = last_from kind' a' })

    zeros : label ≡ 0 → work ≡ 0 → period ≡ 0 → reserved ≡ 0 → kind ≡ 0 → a ≡ 0 → l ≡ 0 → kind' ≡ 0 → a' ≡ 0 → test ≡ true
    zeros e1 e2 e3 e4 e5 e6 e7 e8 e9 = rw (e1, e2, e3, e4, e5, e6, e7, e8, e9)

    some : (sum ≡ 0 → ⊥) → (b : Bool) → test ≡ b → b ≡ false
    some n false e = refl
    some n true e =
        let p = (and-eq-true_iff (kind_encoded kind a l && kind_encoded kind' a' 0) (spare_fits (record { task = task; job = job_from kind a l; last = last_from kind' a' }))).0 e in
        let q = (and-eq-true_iff (zeroed task) (rests_never (job_from kind a l) (last_from kind' a'))).0 p.1 in
        let x = (and-eq-true_iff (eqb label 0 && eqb work 0 && eqb period 0) (eqb reserved 0)).0 q.0 in
        let y = (and-eq-true_iff (eqb label 0 && eqb work 0) (eqb period 0)).0 x.0 in
        let z = (and-eq-true_iff (eqb label 0) (eqb work 0)).0 y.0 in
        absurd (n (omega (arith, rests_blank kind a l kind' a' p.0 q.1, eqb-true label 0 z.0, eqb-true work 0 z.1, eqb-true period 0 y.1, eqb-true reserved 0 x.1)))

pub spare_blank : (words : List ℕ) (i : ℕ) → length words ≡ state_size → i < places
    → place_encoded words (place_start i) && spare_fits (entry_from words (place_start i)) ≡ list_all (λ w. eqb w 0) (place_of words i)
unfolding list_from total
spare_blank words i long l =
    let w : (q : ℕ) → ℕ = λ q. word_in words (place_start i + q) in
    nine_blank (w label_at) (w work_at) (w period_at) (w reserved_at) (w job_at) (w release_at) (w left_at) (w last_at) (w tick_at)
    ∙ rw (place_list words i long l) (sym (all_blank (list_from w place_size) ∙ ap (λ (n : ℕ). eqb n 0) (omega arith)))

-- Words that are put bit by bit in one are 0 there where each of them is.
or_blank : (a w : ℕ) → eqb (bit_or a w) 0 ≡ eqb a 0 && eqb w 0
or_blank a w = by_eq (bit_or a w) 0 (eqb (bit_or a w) 0 ≡ eqb a 0 && eqb w 0)
    (λ z.
    let p : a ≡ 0 = omega (arith, or_add_and a w, and_le_r a w) in
    let q : w ≡ 0 = omega (arith, or_add_and a w, and_le_l a w) in
    rw (z, p, q))
    (λ d. rw (ne_eqb (bit_or a w) 0 d) (by_eq a 0 (false ≡ eqb a 0 && eqb w 0)
    (λ p. let n : w ≡ 0 → ⊥ = λ q. d (omega (arith, or_add_and a w)) in rw (p, ne_eqb w 0 n))
    (λ n. rw (ne_eqb a 0 n))))

pub and_true : (b : Bool) → b && true ≡ b
and_true true = refl
and_true false = refl

pub or_more : (ws : List ℕ) (a w : ℕ) → eqb a 0 ≡ list_all (λ w. eqb w 0) ws → eqb (bit_or a w) 0 ≡ list_all (λ w. eqb w 0) (ws ++ w ∷ [])
or_more ws a w e = rw (or_blank a w, e, list_all-append) (ap (λ (b : Bool). list_all (λ w. eqb w 0) ws && b) (sym (and_true (eqb w 0))))

-- The spare places from place i on are blank where place i is, and those from the next place on are.
pub spares_cut : (words : List ℕ) (i : ℕ) → list_all (λ w. eqb w 0) (drop (place_start i) words) ≡ list_all (λ w. eqb w 0) (place_of words i) && list_all (λ w. eqb w 0) (drop (place_start (suc i)) words)
spares_cut words i =
    let rest = drop (place_start i) words in
    let next : drop place_size rest ≡ drop (place_start (suc i)) words = drop-drop place_size (place_start i) words ∙ ap (λ (k : ℕ). drop k words) (omega arith) in
    sym (ap (list_all (λ w. eqb w 0)) (take-append-drop place_size rest)) ∙ list_all-append (λ w. eqb w 0) (place_of words i) (drop place_size rest) ∙ rw next

-- ON WORDS THAT ENCODE A STATE, a tick, a run of the task at place i and a release put the words of the state after it.
pub tick_put : (words : List ℕ) → encoded words ≡ true → set words clock_at (word_in words clock_at + 1) ≡ state_words (aged (state_in words))
tick_put words e = ap (λ (x : List ℕ). set x clock_at (word_in words clock_at + 1)) (sym (written_back words e))

pub run_put : (words : List ℕ) (i : ℕ) → encoded words ≡ true → i < places
    → let w = set words clock_at (word_in words clock_at + 1) in puts w (place_start i) (entry_words (worked_of (get_or (entries_in w) i no_entry))) ≡ state_words (after_run (state_in words) i)
run_put words i e l =
    let s = aged (state_in words) in
    ap (λ (w : List ℕ). puts w (place_start i) (entry_words (worked_of (get_or (entries_in w) i no_entry)))) (tick_put words e)
    ∙ ap (λ (x : Entry). puts (state_words s) (place_start i) (entry_words (worked_of x))) (entry_is (state_words s) i l ∙ (entry_back s i l).0)
    ∙ entry_put s i (worked_of (entry_in s i)) (read_whole words) l

pub release_put : (words : List ℕ) (i demand : ℕ) → encoded words ≡ true → i < places
    → puts words (place_start i) (entry_words (released_entry (state_in words) i demand)) ≡ state_words (with_entry (state_in words) i (released_entry (state_in words) i demand))
release_put words i demand e l =
    let s = state_in words in
    ap (λ (w : List ℕ). puts w (place_start i) (entry_words (released_entry s i demand))) (sym (written_back words e))
    ∙ entry_put s i (released_entry s i demand) (read_whole words) l

-- A COUNT of a tally that is put one up gives the words of the tally after it.
abbrev pub count_at : Count → ℕ
count_at Runs = run_at
count_at Slots = slot_at
count_at Tails = tail_at
count_at Wakings = wakings_at

pub count_put : (words : List ℕ) (count : Count) → length words ≡ tally_size → set words (count_at count) (word_in words (count_at count) + 1) ≡ tally_words (raised (tally_in words) count)
count_put words Runs l = ap (λ (x : List ℕ). set x run_at (word_in words run_at + 1)) (sym (tally_written_back words l))
count_put words Slots l = ap (λ (x : List ℕ). set x slot_at (word_in words slot_at + 1)) (sym (tally_written_back words l))
count_put words Tails l = ap (λ (x : List ℕ). set x tail_at (word_in words tail_at + 1)) (sym (tally_written_back words l))
count_put words Wakings l = ap (λ (x : List ℕ). set x wakings_at (word_in words wakings_at + 1)) (sym (tally_written_back words l))
