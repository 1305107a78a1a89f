-- Texts written one after the other are their concatenation written, and a number is written digit by digit.
use Prim.Native.Nat.{ℕ, ◌+◌, ◌/◌, ◌%◌, ◌^◌, ◌≤◌, ◌<◌}
use mathlib.Core.Path.{◌≡◌, refl, ap, sym, ◌∙◌}
use mathlib.Core.List.{List, [], ◌∷◌, ◌++◌}
use native.Mathlib.Omega.{arith}
use borrow.Author.Tests.{lt-ltb, le-ltb}
use Rattle.std.proofs.lemmas.Fmt.{AppendsLastDigit, decimal_from_appends, length-decimal-le}
use Rattle.texts.specs.declared.Page.{Page}
use Rattle.texts.specs.Pages.{put, shown}
use Rattle.texts.specs.Listing.{digits, decimal}

-- Two texts together are written as one after the other.
pub shown_append : (page : Page) (a b : List ℕ) → shown page (a ++ b) ≡ shown (shown page a) b
unfolding shown
shown_append page [] b = refl
shown_append page (x ∷ a) b = shown_append (put page x) a b

-- The digits of a number below 10 are one digit; of another they are those of n / 10, and its last digit after them.
digits_append : AppendsLastDigit digits
unfolding digits
digits_append = record { one = λ k n l. rw (lt-ltb n 10 l); more = λ k n l. rw (le-ltb n 10 l) }

-- Room for one digit more than a number has changes nothing: either way it is what `{}` writes.
digits_enough : (n : ℕ) → n < 10 ^ 9 → digits 9 n ≡ decimal n
digits_enough n l =
    decimal_from_appends digits digits_append 9 n (omega arith) (length-decimal-le 9 n (omega arith) l (omega arith))
    ∙ sym (decimal_from_appends digits digits_append 10 n (omega arith) (length-decimal-le 10 n (omega arith) (omega arith) (omega arith)))

-- A number below 10 is one digit.
pub decimal_digit : (n : ℕ) → n < 10 → decimal n ≡ (48 + n) ∷ []
decimal_digit = digits_append.one 9

-- A number of 10 or more, and of at most ten digits, has the decimal digits of n / 10, and its last digit after them.
pub decimal_more : (n : ℕ) → 10 ≤ n → n < 10 ^ 10 → decimal n ≡ decimal (n / 10) ++ (48 + n % 10) ∷ []
decimal_more n l h = digits_append.more 9 n l ∙ ap (λ (d : List ℕ). d ++ (48 + n % 10) ∷ []) (digits_enough (n / 10) (omega arith))
