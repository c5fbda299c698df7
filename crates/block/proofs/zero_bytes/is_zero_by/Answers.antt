use Rattle.std.proofs.Common.{◌≡◌, ◌-◌, ◌/◌, ◌∙◌, length, drop, rules}
use borrow.Author.Tests.{tests}
use Rattle.std.proofs.lemmas.Iterator.{YieldsList-from_slice}
use Rattle.std.proofs.lemmas.Iterator.Search.{all_from_yields_List}
use Rattle.std.specs.List.{list_all}
use Rattle.std.specs.Simd.{first_chunks}
use Rattle.block.specs.Bytes.{is_zero}
use Rattle.block.proofs.Zeros.{last_left, chunk_lost}
use Rattle.block.proofs.zero_bytes.is_zero_by.Goals as goal

pub returns-then-all : goal.returns-then-all
returns-then-all g c =
    let s = c.args.s.now in
    let a : c.all.result ≡ list_all is_zero (first_chunks g.row.N (length s / g.row.N) s) =
    all_from_yields_List is_zero _ _ _ c.all.ensures.ran (YieldsList-from_slice (first_chunks g.row.N (length s / g.row.N) s) (c.iter.ensures.rest ∙ c.as_chunks.ensures.front)) (λ x b q k. search (rules, tests)) in
    let e : c.is_some_and.result ≡ is_zero (drop (length s - g.row.N) s) = search rules in
    e ∙ last_left g.row.N s (search rules) (search rules) a c.if-all.true

pub returns-else-all : goal.returns-else-all
returns-else-all g c =
    let s = c.args.s.now in
    let a : c.all.result ≡ list_all is_zero (first_chunks g.row.N (length s / g.row.N) s) =
    all_from_yields_List is_zero _ _ _ c.all.ensures.ran (YieldsList-from_slice (first_chunks g.row.N (length s / g.row.N) s) (c.iter.ensures.rest ∙ c.as_chunks.ensures.front)) (λ x b q k. search (rules, tests)) in
    chunk_lost g.row.N s (search rules) (search rules) a c.if-all.false
