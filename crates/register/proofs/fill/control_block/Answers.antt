use Rattle.register.proofs.Writing.{control_filled}
use Rattle.register.proofs.fill.control_block.Goals as goal

pub returns : goal.returns
returns c = let a = c.args in
    cc (control_filled _ a.first a.second, c.put_bytes.ensures, c.put_word.ensures, c.put_word-2.ensures, c.seal.ensures)
