-- It writes the digits of n / 10, which is smaller, and then the last digit.
use Rattle.texts.proofs.Page.+number.Given as goal

abbrev pub decreases-number : goal.decreases-number
decreases-number l = l.n
