use Rattle.std.proofs.Common.{◌≡◌, ◌+◌, ◌<◌, length, sym, add-one, arith, rules}
use lib.Seq.{paste-zero, paste-suc, take-length}
use Rattle.block.proofs.Put.{put_in, put_out}
use Rattle.block.proofs.write.put_bytes.Goals as goal

pub returns-then-dst-src : goal.returns-then-dst-src
returns-then-dst-src c = sym (put_out _ _ _ (omega arith))

pub returns-then-dst-src-2 : goal.returns-then-dst-src-2
returns-then-dst-src-2 c = sym (put_out _ _ _ (omega arith))

pub loop-i-init : goal.loop-i-init
loop-i-init c = (search rules, search rules, search rules, omega arith, paste-zero c.args.dst.now c.args.at c.args.src.now)

pub loop-i-preserved : goal.loop-i-preserved
loop-i-preserved c = let a = c.args in
    let l = c.loop-i in
    let h : a.at + l.i < length a.dst.now = omega arith in
    let k : l.i < length a.src.now = omega arith in
    (search rules, search rules, search rules, search rules, rw (l.invariant.4, paste-suc a.dst.now a.at a.src.now l.i 0 h k, ← add-one))

pub returns : goal.returns
returns c = let l = c.loop-i in
    let a = c.args in
    let e : l.i ≡ length a.src.now = omega arith in
    rw (put_in a.dst.now a.at a.src.now l.invariant.3) (rw (e, take-length a.src.now) at l.invariant.4)
