-- `entries::Slots::fewest`: the loop keeps `Dropping`, whatever the starts are. Assumes nothing.
use mathlib.Core.Path.{◌≡◌, sym}
use native.Mathlib.Omega.{arith}
use Rattle.entries.proofs.Between.{length_between, between_next}
use Rattle.entries.proofs.Dropping.{start, enough, over, step}
use Rattle.entries.proofs.Slots.fewest.Goals as goal

pub loop-count-init : goal.loop-count-init
loop-count-init c = λ starts. start _ _ _ _ _

pub returns-then-left-room : goal.returns-then-left-room
returns-then-left-room c = λ starts. sym (enough _ _ _ _ _ _ _ _ (c.loop-count.invariant starts) c.if-left-room.true)

pub loop-count-preserved : goal.loop-count-preserved
loop-count-preserved c =
    λ starts.
    step _ _ _ _ _ _ _ _ (c.loop-count.invariant starts) c.if-left-room.false (omega arith) _
    (between_next starts _ _ _ _ _ (omega arith)) _ _
    c.bytes_at-len.ensures.0
    c.saturating_sub-left.ensures

pub returns : goal.returns
returns c =
    let s = c.args.self in
    let all : c.min-most.result ≡ c.loop-count.count = omega arith in
    λ starts.
    let n = length_between starts s.names.now s.values.now c.args.dropped c.args.inserted in
    rw all (sym (over _ _ _ _ _ _ _ _ (c.loop-count.invariant starts) (omega arith)))
