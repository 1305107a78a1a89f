-- What was asked of place i is its test.
use Rattle.std.proofs.Common.{◌≡◌, ◌<◌, ℕ, List, Bool, true, length, get_or, add-one, arith, ap, sym, ◌∙◌}
use Rattle.base.proofs.EveryLaws.{every_more, every_not}
use Rattle.table.specs.Sound.{places}
use Rattle.decisions.specs.declared.Entry.{Entry}
use Rattle.decisions.specs.Fits.{no_entry}
use Rattle.scheduler.specs.States.{period_before}
use Rattle.node.specs.Layout.{state_size, place_start, place_of, place_encoded, entry_from, entries_in}
use Rattle.node.proofs.LayoutLaws.{entry_at, encoded_at}
use Rattle.node.proofs.Words.tasks_fit.Goals as goal

-- The words of place i are what was read there.
module _ (words place : List ℕ) (i : ℕ) (long : length words ≡ state_size) (l : i < places) (at : place ≡ place_of words i) where
  encoded : (b : Bool) → b ≡ place_encoded place 0 → place_encoded words (place_start i) ≡ b
  encoded b e = sym (encoded_at words i long l) ∙ sym (rw at at e)

  entry : (x : Entry) → x ≡ entry_from place 0 → x ≡ get_or (entries_in words) i no_entry
  entry x e = rw at at e ∙ entry_at words i long l

pub returns-then-not-encoded : goal.returns-then-not-encoded
returns-then-not-encoded c =
    let w = c.args.self.now in
    let i = c.loop-i.i in
    let l : i < places = omega (arith, c.requires) in
    sym (every_not _ c.args.head.n i (omega arith) (rw (encoded w.words.now c.place-place.result.now i w.long l c.place-place.ensures _ c.if-not-encoded.ensures)))

pub returns-then-not-place_fits : goal.returns-then-not-place_fits
returns-then-not-place_fits c =
    let w = c.args.self.now in
    let i = c.loop-i.i in
    let l : i < places = omega (arith, c.requires) in
    let e = entry w.words.now c.place-place.result.now i w.long l c.place-place.ensures _ c.entry_of-e.ensures in
    let fits = rw (e, c.loop-i.invariant.0) at c.if-not-place_fits.ensures in
    sym (every_not _ c.args.head.n i (omega arith) (rw (encoded w.words.now c.place-place.result.now i w.long l c.place-place.ensures true c.if-not-encoded.ensures) (sym fits)))

pub loop-i-preserved : goal.loop-i-preserved
unfolding period_before
loop-i-preserved c =
    let w = c.args.self.now in
    let i = c.loop-i.i in
    let l : i < places = omega (arith, c.requires) in
    let e = entry w.words.now c.place-place.result.now i w.long l c.place-place.ensures _ c.entry_of-e.ensures in
    let fits = rw (e, c.loop-i.invariant.0) at c.if-not-place_fits.ensures in (
      rw add-one (ap {A = Entry} (λ x. x.task.period) e),
      every_more _ i c.loop-i.invariant.1 (rw (encoded w.words.now c.place-place.result.now i w.long l c.place-place.ensures true c.if-not-encoded.ensures) (sym fits)),
    )
