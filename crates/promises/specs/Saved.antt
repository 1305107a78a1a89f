-- A state may lie in 32-bit words, for firmware: it is read back, called on and stopped in between. The calls of crate
-- `node` are given by `admit_on`, `start_on`, `release_on`, `step_on` and `energy_on` of its specs/Calls.antt; that a refused
-- one leaves every word is in Demand1.antt.
use Rattle.std.specs.Prelude.{ℕ, ◌+◌, ◌*◌, ◌/◌, ◌%◌, ◌<◌, ◌≡◌, refl, List, ◌++◌, true, length}
use Rattle.std.proofs.Common.{sym, ◌∙◌, ap, arith, eq-eqb, eqb-true}
use Rattle.base.proofs.FoldLaws.{folded_append}
use Rattle.table.specs.Sound.{places}
use Rattle.scheduler.specs.declared.State.{State}
use Rattle.decisions.specs.declared.Tally.{Tally}
use Rattle.decisions.specs.Fits.{no_ticks}
use Rattle.scheduler.specs.Starts.{Given, start_of, fresh_state, IsStarted}
use Rattle.scheduler.specs.Releases.{release_of}
use Rattle.scheduler.specs.Steps.{step_of}
use Rattle.scheduler.proofs.GivenLaws.{started_reads}
use Rattle.histories.specs.History.{Call, Past, next, after, begun, history}
use Rattle.histories.proofs.HistoryLaws.{kept_begun, history_kept}
use Rattle.node.specs.Layout.{state_size, tally_size, state_words, tally_words, state_in, tally_in, encoded, tally_encoded}
use Rattle.node.specs.Calls.{packed, StateLeft, start_on, released_on, release_on, moved_on, step_on}
use Rattle.node.specs.Saved.{called_all, saved, restored}
use Rattle.node.proofs.LayoutLaws as layout
use Rattle.node.proofs.SavedLaws as saving

-- READING BACK: a state of 16 places, and a tally, are read back as they were written.
pub state_read_back : (s : State) → length s.entries ≡ places → (encoded (state_words s) ≡ true) × (state_in (state_words s) ≡ s)
state_read_back s whole = (layout.state_encoded s, layout.read_back s whole)

pub tally_read_back : (t : Tally) → (tally_encoded (tally_words t) ≡ true) × (tally_in (tally_words t) ≡ t)
tally_read_back t = (refl, refl)

-- Words that encode a state, or a tally, are its only ones.
pub one_encoding : (words : List ℕ) → encoded words ≡ true → state_words (state_in words) ≡ words
one_encoding = layout.written_back

pub one_tally_encoding : (words : List ℕ) → tally_encoded words ≡ true → tally_words (tally_in words) ≡ words
one_tally_encoding words e = layout.tally_written_back words (eqb-true (length words) tally_size e)

-- EVERY CALL ON WORDS is the call on the state, and the tally, that they encode.
pub release_on_words : (words : List ℕ) (task demand : ℕ) → encoded words ≡ true → release_on words task demand ≡ released_on (release_of (state_in words) task demand)
unfolding release_on
release_on_words words task demand e = rw e

pub step_on_words : (words tally : List ℕ) → encoded words ≡ true → tally_encoded tally ≡ true → step_on words tally ≡ moved_on (step_of (state_in words) (tally_in tally))
unfolding step_on
step_on_words words tally e c = rw (e, c)

-- THE WORDS FOLLOW THE HISTORY: over every list of calls from an accepted start, the buffers hold the words of the
-- history's state and tally.
pub words_follow : (g : Given) (calls : List Call) → IsStarted g
    → called_all (saved (begun (start_of g).state)) calls ≡ saved (history g calls)
words_follow g calls ok =
    let r = started_reads g ok in
    rw r.1 (saving.calls_saved (begun (fresh_state g r.0)) calls (kept_begun g r.0 r.1))

-- A START on a buffer of a state's length writes the words of the fresh state, whatever stood there.
pub start_on_words : (g : Given) (words : List ℕ) → IsStarted g → length words ≡ state_size
    → start_on g words ≡ record { answer = 0; state = state_words (start_of g).state }
start_on_words g words ok long = rw (ok, eq-eqb (length words) state_size long)

-- So the buffers that a start and a tally of zeros leave hold the history's words after every list of calls.
pub words_follow_a_start : (g : Given) (words : List ℕ) (calls : List Call) → IsStarted g → length words ≡ state_size
    → called_all (record { state = (start_on g words).state; tally = tally_words no_ticks }) calls ≡ saved (history g calls)
words_follow_a_start g words calls ok long =
    ap (λ (m : StateLeft). called_all (record { state = m.state; tally = tally_words no_ticks }) calls) (start_on_words g words ok long)
    ∙ words_follow g calls ok

-- A STOP CHANGES NOTHING: a history cut in two by a save and a restore equals the uncut one.
pub stop_changes_nothing : (g : Given) (before later : List Call) → IsStarted g
    → after (restored (history g before)) later ≡ history g (before ++ later)
stop_changes_nothing g before later ok =
    let r = started_reads g ok in
    rw r.1
    (ap (λ (p : Past). after p later) (saving.restored_same (after (begun (fresh_state g r.0)) before) (history_kept g r.0 before r.1).sized)
    ∙ sym (folded_append next (begun (fresh_state g r.0)) before later))

-- AN ANSWER is read back by its parts: the low byte, the byte above it, and the rest.
pub answer_reads_back : (number a b : ℕ) → number < 256 → a < 256 → (packed number a b % 256 ≡ number) × (packed number a b / 256 % 256 ≡ a) × (packed number a b / 65536 ≡ b)
answer_reads_back number a b l m =
    let up : packed number a b / 256 ≡ a + 256 * b = omega arith in
    let top : packed number a b / 65536 ≡ b = omega arith in
    let low : (a + 256 * b) % 256 ≡ a = omega arith in
    ((let e : packed number a b % 256 ≡ number = omega arith in e), rw up low, top)
