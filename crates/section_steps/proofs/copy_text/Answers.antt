-- `section_steps::copy_text`: by where the string stands. Assumes nothing.
use lib.ListN.{length}
use Rattle.section_steps.proofs.Copying.{input_copied, fixed_copied, stored_copied}
use Rattle.section_steps.proofs.copy_text.Goals as goal

pub unwrap-requires : goal.unwrap-requires
unwrap-requires c =
    let a = c.args in
    (input_copied a.text _ _ a.s.now a.arena.now a.out.now a.at _ c.in-Input.is c.requires.0 c.requires.2
    c.write.result c.write.ensures).0

pub returns-in-Input : goal.returns-in-Input
returns-in-Input c =
    let a = c.args in
    (input_copied a.text _ _ a.s.now a.arena.now a.out.now a.at _ c.in-Input.is c.requires.0 c.requires.2
    c.write.result c.write.ensures).1

pub unwrap-requires-in-Fixed : goal.unwrap-requires-in-Fixed
unwrap-requires-in-Fixed c =
    let a = c.args in
    (fixed_copied a.text _ _ a.s.now a.arena.now a.out.now a.at _ c.in-Fixed.is (length a.s.now) c.requires.0 c.requires.2
    c.copy.result c.copy.ensures).0

pub returns-in-Fixed : goal.returns-in-Fixed
returns-in-Fixed c =
    let a = c.args in
    (fixed_copied a.text _ _ a.s.now a.arena.now a.out.now a.at _ c.in-Fixed.is (length a.s.now) c.requires.0 c.requires.2
    c.copy.result c.copy.ensures).1

pub unwrap-requires-in-Stored : goal.unwrap-requires-in-Stored
unwrap-requires-in-Stored c =
    let a = c.args in
    (stored_copied a.text _ _ a.s.now a.arena.now a.out.now a.at _ c.in-Stored.is c.requires.1 c.requires.2
    c.copy-in-Stored.result c.copy-in-Stored.ensures).0

pub returns-in-Stored : goal.returns-in-Stored
returns-in-Stored c =
    let a = c.args in
    (stored_copied a.text _ _ a.s.now a.arena.now a.out.now a.at _ c.in-Stored.is c.requires.1 c.requires.2
    c.copy-in-Stored.result c.copy-in-Stored.ensures).1
