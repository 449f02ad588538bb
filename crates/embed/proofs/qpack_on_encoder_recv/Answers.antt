-- `embed::qpack_on_encoder_recv`: the call on the stream, and both buffers as it leaves them. Assumes nothing.
use mathlib.Core.Path.{◌≡◌}
use Prim.Native.Nat.{ℕ}
use lib.ListN.{length}
use Rattle.answers.specs.Table.{replied}
use Rattle.dynamic.specs.Calls.{with_ring}
use Rattle.dynamic.specs.declared.Table.{Table}
use Rattle.encoder_stream.specs.Entries.{Held}
use Rattle.encoder_stream.specs.Stream.{Streamed, received}
use Rattle.encoder_stream.specs.declared.Received.{Received}
use Rattle.embed.specs.Outcomes.{reply_number, streamed_of}
use Rattle.embed.specs.declared.outcomes.EncoderOutcome.{EncoderOutcome}
use Rattle.embed.proofs.qpack_on_encoder_recv.Goals as goal

-- what is handed back, field by field
told : (t : Table) (x : Streamed Held) (r : Received) (n : ℕ) → n ≡ reply_number r.reply
    → r.table ≡ with_ring x.state.ring t → r.consumed ≡ x.consumed → r.inserted ≡ x.total
    → r.written ≡ length x.told.bytes → replied r.reply ≡ x.told.answer
    → ◌≡◌ {A = EncoderOutcome}
    (record { table = r.table; consumed = r.consumed; inserted = r.inserted; written = r.written; answer = n })
    (streamed_of t x)
told t x r n number table consumed inserted written answer = rw (number, table, consumed, inserted, written, answer)

pub returns : goal.returns
returns c =
    let call = c.on_encoder_recv-received in
    let h = call.ensures in
    let a = c.args in
    let x : Streamed Held = received a.table a.arena.now a.bytes.now (length a.out.now) in record {
      value = told a.table x call.result _ c.reply_number.ensures h.table h.consumed h.inserted h.written h.answer;
      arena_after = h.arena;
      out_after = rw h.written at h.out;
    }
