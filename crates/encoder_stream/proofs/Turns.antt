-- The loop over the instructions of a slice: what is left gives what the whole gives. Assumes nothing.
use mathlib.Core.Path.{◌≡◌, refl, sym, ap, ◌∙◌}
use mathlib.Core.List.{List}
use mathlib.Core.Option.{some, none}
use Prim.Native.Nat.{ℕ, ◌+◌, ◌-◌, ◌≤◌, ◌<◌}
use native.Mathlib.Omega.{arith}
use lib.ListN.{length}
use Rattle.std.specs.Prelude.{Result, Ok, Err, Option as Maybe, Some}
use Rattle.answers.specs.Answer.{done, refused}
use Rattle.answers.specs.Table.{ok, replied}
use Rattle.answers.specs.declared.Refusal.{Refusal}
use Rattle.instructions.specs.Instruction.{Instruction, instruction_at, Inside, Within}
use Rattle.instructions.specs.declared.Parsed.{Parsed}
use Rattle.running.specs.declared.Whole.{Whole as CodeWhole}
use Rattle.running.specs.Run.{Whole, Took, Ended, ends, run, run_all}
use Rattle.running.proofs.Run.{run_over, run_cut, run_bad, run_refused, run_on}
use Rattle.ring.specs.declared.Ring.{Ring}
use Rattle.encoder_stream.specs.Entries.{Held, holding, took, applied}
use Rattle.encoder_stream.proofs.Staying.{refused_stays}

abbrev pub whole : ℕ → List ℕ → Held → Ended Held
whole low s x = run_all instruction_at (applied low) s x

pub record Going (low : ℕ) (s : List ℕ) (x₀ x : Held) (at : ℕ) : Type 0 where
  pub fuel : ℕ
  pub enough : length s ≤ fuel + at
  pub rest : run instruction_at (applied low) fuel s at x ≡ whole low s x₀

-- an instruction that was read lies in the slice
pub whole_within : (s : List ℕ) (at : ℕ) (r : Result (Maybe (CodeWhole Parsed)) Refusal) (i : CodeWhole Parsed) → r ≡ Ok (Some i) → Within s at r
    → Inside (length s) i.instruction × (at < i.next) × (i.next ≤ length s)
whole_within s at r i q h = rw q at h

pub going : (low : ℕ) (s : List ℕ) (x : Held) → Going low s x x 0
going low s x = record { fuel = length s; enough = omega arith; rest = refl }

module _ {low : ℕ} {s : List ℕ} {x₀ x : Held} {at : ℕ} (g : Going low s x₀ x at) where
  pub ends_over : length s ≤ at → ends x at (done ok) ≡ whole low s x₀
  ends_over h = sym (run_over instruction_at (applied low) s at x g.fuel h) ∙ g.rest

  module _ (h : at < length s) where
    some_fuel : 0 < g.fuel
    some_fuel = omega (arith, g.enough)

    pub ends_cut : instruction_at s at ≡ done none → ends x at (done ok) ≡ whole low s x₀
    ends_cut e = sym (run_cut instruction_at (applied low) s at x g.fuel h some_fuel e) ∙ g.rest

    pub ends_bad : (r : Refusal) → instruction_at s at ≡ refused r → ends x at (refused r) ≡ whole low s x₀
    ends_bad r e = sym (run_bad instruction_at (applied low) s at x g.fuel h some_fuel r e) ∙ g.rest

    module _ (i : Whole Instruction) (e : instruction_at s at ≡ done (some i)) (y : Ring) (z : Result Unit Refusal) (b : List ℕ)
        (w : took y z b ≡ applied low x i.instruction) where
      answered : (o : Result Unit Refusal) → z ≡ o → (applied low x i.instruction).answer ≡ replied o
      answered o q = ap (λ (t : Took Held). t.answer) (sym w) ∙ ap replied q

      -- a refusal leaves the entries and the arena
      pub ends_refused : (r : Refusal) → z ≡ Err r → ends (holding y b) at (refused r) ≡ whole low s x₀
      ends_refused r q =
          let no = answered (Err r) q in
          let same : holding y b ≡ x = ap (λ (t : Took Held). t.state) w ∙ refused_stays low x i.instruction r no in
          ap (λ (h : Held). ends h at (refused r)) same
          ∙ sym (run_refused instruction_at (applied low) s at x g.fuel h some_fuel i e r no)
          ∙ g.rest

      pub goes_on : z ≡ (Ok tt) → at < i.next → Going low s x₀ (holding y b) i.next
      goes_on q past =
          let yes = answered (Ok tt) q in
          let next : (applied low x i.instruction).state ≡ holding y b = ap (λ (t : Took Held). t.state) (sym w) in
          record {
            fuel = g.fuel - 1;
            enough = omega (arith, g.enough, some_fuel);
            rest = ap (λ (z : Held). run instruction_at (applied low) (g.fuel - 1) s i.next z) (sym next)
                ∙ sym (run_on instruction_at (applied low) s at x g.fuel h some_fuel i e ok yes)
                ∙ g.rest;
          }
