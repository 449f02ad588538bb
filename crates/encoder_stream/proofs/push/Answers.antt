-- `encoder_stream::push`: what the ring's push did. Assumes nothing.
use Rattle.encoder_stream.proofs.Applying.{pushed_by_lem}
use Rattle.encoder_stream.proofs.push.Goals as goal

pub returns : goal.returns
returns c =
    let a = c.args in
    pushed_by_lem a.ring.now a.arena.now _ a.low a.source a.name.now a.value.now c.push-pushed.result c.push-pushed.ensures _ c.push_reply.ensures
