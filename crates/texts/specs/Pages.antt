-- A page of text is written byte by byte from its start.
use Rattle.std.specs.Prelude.{ℕ, ◌+◌, List, [], ◌∷◌, cond, ltb, set, replicate}
use Rattle.texts.specs.declared.Page.{Page}

-- A page has this many bytes.
abbrev pub room : ℕ
room = 2048

-- A blank page is a page of zeros with nothing written.
abbrev pub blank : Page
blank = record { text = replicate room 0; len = 0 }

-- A page takes one byte more, which is lost where the page is full.
unfoldable pub put : Page → ℕ → Page
put page byte = cond (ltb page.len room) (record { text = set page.text page.len byte; len = page.len + 1 }) page

-- A page takes a text byte by byte.
unfoldable pub shown : Page → List ℕ → Page
shown page [] = page
shown page (byte ∷ text) = shown (put page byte) text
