-- The laws behind the functions' proofs. Walked says what the pass has found when it stands at a dose, Ends and Ruling what
-- that makes of the rules; QuickPass is the same for the quick pass.
mod Ranges
mod Choice
mod Limit
mod Counts
mod Steps
mod Lowest
mod Rank
mod Walked
mod Seen
mod Ends
mod Ruling
mod QuickPass
