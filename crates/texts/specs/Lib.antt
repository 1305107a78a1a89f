-- Pages has a page of text, written byte by byte.
pub mod Pages
-- Listing has the text of a listing.
pub mod Listing
