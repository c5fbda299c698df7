-- The code's own definitions: what private contracts and proofs are stated by. No rule and no promise rests on these. By `doses_left`
-- contracts see an iterator as the list that it has still to give; all that they say of it is which doses `next` gives, one by one.
pub mod Left
