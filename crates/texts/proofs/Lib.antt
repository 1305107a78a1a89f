-- TextLaws says what texts written one after the other are, and writes numbers digit by digit.
pub mod TextLaws
-- PageLaws shows that a page holds what was written.
pub mod PageLaws
-- ListingLaws shows that a listing fits its page.
pub mod ListingLaws
