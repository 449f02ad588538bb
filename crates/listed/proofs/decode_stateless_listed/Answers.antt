-- `listed::decode_stateless_listed`: the reader's equation, on the records that were lent. Assumes nothing.
use mathlib.Core.Path.{◌≡◌, ◌∙◌}
use lib.ListN.{length, take, replicate}
use Rattle.decoder.specs.Section.{stateless, section_of, read_all}
use Rattle.listed.specs.Lent.{records}
use Rattle.listed.proofs.Values.{lists, part_many}
use Rattle.listed.proofs.decode_stateless_listed.Goals as goal

pub returns : goal.returns
returns c =
    let a = c.args in
    let d = c.decode_stateless-decoded in
    let many : length d.new.fields ≡ length (take c.min-count.result (replicate records a.fill)) = d.auto.fields in
    let said : section_of d.result d.new.fields d.new.out ≡ read_all (λ f. f) (stateless a.max.bytes) a.s.now (take c.min-count.result (replicate records a.fill)) a.out.now = d.ensures in
    rw c.min-count.ensures
    (lists a.fill a.room d.new.fields (rw c.min-count.ensures at many ∙ part_many a.fill a.room) (stateless a.max.bytes) a.s.now d.result a.out.now _ (rw c.min-count.ensures at said))
