-- The proof of `push_reply`: its answer is the one of the push, by its variant. Assumes nothing.
use borrow.Author.Tests.{eq-eqb, ne_eqb}
use Rattle.call_parts.specs.Parts.{push_reply}
use Rattle.call_parts.proofs.push_reply.Goals as goal

pub returns-then-capacity-eq0 : goal.returns-then-capacity-eq0
unfolding push_reply
returns-then-capacity-eq0 c = rw (c.in-TooLarge.is, eq-eqb _ _ c.if-capacity-eq0.true)

pub returns-in-Made : goal.returns-in-Made
unfolding push_reply
returns-in-Made c = rw c.in-Made.is

pub returns-else-capacity-eq0 : goal.returns-else-capacity-eq0
unfolding push_reply
returns-else-capacity-eq0 c = rw (c.in-TooLarge.is, ne_eqb _ _ c.if-capacity-eq0.false)

pub returns-in-NoRoom : goal.returns-in-NoRoom
unfolding push_reply
returns-in-NoRoom c = rw c.in-NoRoom.is

pub returns-in-Full : goal.returns-in-Full
unfolding push_reply
returns-in-Full c = rw c.in-Full.is

pub returns-in-BadCall : goal.returns-in-BadCall
unfolding push_reply
returns-in-BadCall c = rw c.in-BadCall.is
