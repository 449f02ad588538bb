-- One call on two tables that are alike. Assumes nothing.
use mathlib.Core.Path.{◌≡◌, refl, sym, ap, ap₂, subst, ◌∙◌}
use mathlib.Core.Bool.{Bool, true, false, ◌&&◌, cond}
use mathlib.Core.List.{List, ◌++◌}
use Prim.Native.Nat.{ℕ, ◌-◌}
use lib.Dec.{ltb}
use lib.ListN.{length, drop}
use Rattle.answers.specs.Answer.{answered}
use Rattle.answers.specs.Table.{replied}
use Rattle.arena.specs.Ring.{long_enough, ring_write}
use Rattle.arena.proofs.RingWrite.{length_ring_write}
use Rattle.decoder.specs.Section as section
use Rattle.section_steps.specs.declared.Cursor.{Cursor}
use Rattle.section_steps.specs.Section.{Line}
use Rattle.dynamic.specs.Calls as calls
use Rattle.dynamic.specs.Record.{view, sound, usable}
use Rattle.dynamic.specs.declared.Inserting.{Inserting}
use Rattle.dynamic.specs.declared.Looked.{Looked}
use Rattle.dynamic.specs.declared.Replied.{Replied}
use Rattle.dynamic.specs.declared.Table.{Table}
use Rattle.dynamic.proofs.Insertions.{inserts}
use Rattle.dynamic.proofs.Made.{same_bytes}
use Rattle.encoder_stream.specs.Stream as stream
use Rattle.field.specs.Field.{Field}
use Rattle.model.specs.Drop as model-table
use Rattle.model.specs.Insert as model-insert
use Rattle.model.specs.Table as model
use Rattle.ring.specs.Ring.{fields_of}
use Rattle.ring.specs.declared.Ring.{Ring}
use Rattle.running.specs.Run.{Ended}
use Rattle.demands.specs.Calls.{State, holds, Call, set_capacity, set_blocked_maximum, put, find, insert, begin, commit, abandon, acknowledge, cancel, increment, encoder_stream, decoder_stream, decode_header, read_on, next_on, lend, Answered, plain, looked, insertion, received, decoded, decoded_numbers, stepped, replying, putting, looking, inserting, receiving, calling, called}
use Rattle.demands.specs.Strings.{Alike, AlikeCall, same, lent, AlikeOutcome}
use Rattle.demands.proofs.AlikeStream.{receiving_alike}
use Rattle.demands.proofs.Arenas.{same_put, same_find, same_insert, same_line, same_bytes as same-line-bytes, same_section}
use Rattle.demands.proofs.Full.{Full, shape_of}
use Rattle.demands.proofs.Steps.{puts}
use Rattle.demands.proofs.Untouched.{Same, capacity_same, most_same, begin_same, abandon_same, commit_same, release_same, increment_same, find_same, reports_same}

-- ---- a put or an insert: the strings that it leaves are those of the model

bytes_long : (t u : Table) (a n v : List ℕ) → long_enough (calls.bytes_after t u a n v) ≡ long_enough a
bytes_long t u a n v = go (ltb t.ring.inserted u.ring.inserted)
  where
    go : (more : Bool) → long_enough (cond more (ring_write a t.ring.head (n ++ v)) a) ≡ long_enough a
    go true = rw (length_ring_write a t.ring.head (n ++ v))
    go false = refl

view_fields : (t u : Table) (a b : List ℕ) → view t a ≡ view u b → fields_of t.ring a ≡ fields_of u.ring b
unfolding view
view_fields t u a b e = ap (λ (m : model.Table). m.fields) e

module _ (t : Table) (f : Full t) (a n v : List ℕ) (h : usable t a ≡ true) where
  abbrev new : Field
  new = record { name = n; value = v }

  put_shown : view (calls.put t a n v).table (calls.bytes_after t (calls.put t a n v).table a n v) ≡ (model-table.put (view t a) new).next
  put_shown = ap (λ (s : model.Step _). s.next) ((puts t f a n v h).model h)

  insert_shown : view (calls.insert t a n v).table (calls.bytes_after t (calls.insert t a n v).table a n v)
      ≡ (model-insert.insert (view t a) new).next
  insert_shown =
      let r = calls.insert t a n v in
      ap (λ (s : model.Step _). s.next)
      ((inserts t a (calls.bytes_after t r.table a n v) n v r (shape_of f) refl refl).model h)

-- ---- every call

module _ (t : Table) (full : Full t) (a b : List ℕ) (long : long_enough a ≡ long_enough b) (strings : fields_of t.ring a ≡ fields_of t.ring b) where
  replying_alike : (r : Replied) → Same a b r.table → AlikeOutcome (replying a r) (replying b r)
  replying_alike r w = record { answer = refl; state = record { table = refl; long = long; strings = w } }

  view_same : view t a ≡ view t b
  unfolding view
  view_same = rw strings

  second : usable t a ≡ true → usable t b ≡ true
  second h = ap (λ (l : Bool). sound t && l) (sym long) ∙ h

  -- u and w: what the two calls made of the record
  inserted_alike : (n v : List ℕ) (u w : Table) → u ≡ w
      → (usable t a ≡ true → view u (calls.bytes_after t u a n v) ≡ view w (calls.bytes_after t w b n v)) → (usable t a ≡ false → u ≡ t)
      → Alike (holds u (calls.bytes_after t u a n v)) (holds w (calls.bytes_after t w b n v))
  inserted_alike n v u w e did not =
      record {
        table = e;
        long = bytes_long t u a n v ∙ long ∙ sym (bytes_long t w b n v);
        strings = go (usable t a) refl;
      }
    where
      left : (c : List ℕ) (z : Table) → z ≡ t → fields_of z.ring (calls.bytes_after t z c n v) ≡ fields_of t.ring c
      left c z q =
          ap (λ (x : Table). fields_of x.ring (calls.bytes_after t x c n v)) q ∙ ap (fields_of t.ring) (same_bytes t c n v t refl)

      go : (can : Bool) → usable t a ≡ can → fields_of u.ring (calls.bytes_after t u a n v) ≡ fields_of w.ring (calls.bytes_after t w b n v)
      go true h = view_fields u w _ _ (did h)
      go false h = left a u (not h) ∙ strings ∙ sym (left b w (sym e ∙ not h))

  module _ (n v : List ℕ) where
    abbrev field : Field
    field = record { name = n; value = v }

    put_refused : usable t a ≡ false → (calls.put t a n v).table ≡ t
    unfolding calls.put
    put_refused h = rw h

    put_alike : AlikeOutcome (putting t a n v (calls.put t a n v)) (putting t b n v (calls.put t b n v))
    put_alike =
        let e = same_put t a b long strings n v in
        record {
          answer = ap (λ (r : Replied). plain (replied r.reply)) e;
          state = inserted_alike n v _ _ (ap (λ (r : Replied). r.table) e)
              (λ h. put_shown t full a n v h ∙ ap (λ (m : model.Table). (model-table.put m field).next) view_same
              ∙ sym (put_shown t full b n v (second h)))
              put_refused;
        }

    find_alike : AlikeOutcome (looking a (calls.find t a n v)) (looking b (calls.find t b n v))
    find_alike =
        let e = same_find t a b long strings n v in
        record {
          answer = ap (λ (r : Looked). looked (answered r.found)) e;
          state = record {
            table = ap (λ (r : Looked). r.table) e;
            long = long;
            strings = find_same a b t strings n v ∙ ap (λ (r : Looked). fields_of r.table.ring b) e;
          };
        }

    insert_refused : usable t a ≡ false → (calls.insert t a n v).table ≡ t
    unfolding calls.insert
    insert_refused h = rw h

    insert_alike : AlikeOutcome (inserting t a n v (calls.insert t a n v)) (inserting t b n v (calls.insert t b n v))
    insert_alike =
        let e = same_insert t a b long strings n v in
        record {
          answer = ap (λ (r : Inserting). insertion (answered r.inserted)) e;
          state = inserted_alike n v _ _ (ap (λ (r : Inserting). r.table) e)
              (λ h. insert_shown t full a n v h ∙ ap (λ (m : model.Table). (model-insert.insert m field).next) view_same
              ∙ sym (insert_shown t full b n v (second h)))
              insert_refused;
        }

  stream_alike : (s o : List ℕ)
      → AlikeOutcome (receiving t o (stream.received t a s (length o))) (receiving t o (stream.received t b s (length o)))
  stream_alike s o =
      let w = receiving_alike t full.ring a b s long strings (length o) in
      record {
        answer = ap answered w.told;
        state = record {
          table = ap (λ (e : Ended Ring). calls.with_ring e.state t) w.told;
          long = w.long;
          strings = w.strings;
        };
      }
    where
      told : Ended Ring → stream.Told
      told e = stream.told e.answer (e.state.inserted - t.ring.inserted)

      answered : Ended Ring → Answered
      answered e =
          received e.consumed e.state.inserted (told e).answer (length (told e).bytes)
          ((told e).bytes ++ drop (length (told e).bytes) o)

  -- a section leaves the record and the arena
  reading_alike : (w z : Answered) → w ≡ z → AlikeOutcome (record { state = holds t a; answer = w }) (record { state = holds t b; answer = z })
  reading_alike w z e = record { answer = e; state = record { table = refl; long = long; strings = strings } }

  line_alike : (s : List ℕ) (room : ℕ) (o : List ℕ) (c : Cursor) → AlikeOutcome (calling t a (next_on s room o c)) (calling t b (next_on s room o c))
  line_alike s room o c =
      reading_alike _ _
      (ap₂ (λ (l : Line) (bytes : List ℕ). stepped l (section.stored_by c o l bytes)) (same_line t a b long strings s room (length o) c)
      (same-line-bytes t a b long strings s c))

  same_call : (c : Call) → AlikeOutcome (calling t a c) (calling t b c)
  same_call (set_capacity c) = replying_alike (calls.set_capacity t c) (capacity_same a b t strings c)
  same_call (set_blocked_maximum m) = replying_alike (calls.set_most t m) (most_same a b t strings m)
  same_call (put n v) = put_alike n v
  same_call (find n v) = find_alike n v
  same_call (insert n v) = insert_alike n v
  same_call (begin x) = replying_alike (calls.begin t x) (begin_same a b t strings x)
  same_call (commit x) = replying_alike (calls.commit t x) (commit_same a b t strings x)
  same_call abandon = replying_alike (calls.abandon t) (abandon_same a b t strings)
  same_call (acknowledge x) = replying_alike (calls.release t x) (release_same a b t strings x)
  same_call (cancel x) = replying_alike (calls.release t x) (release_same a b t strings x)
  same_call (increment n) = replying_alike (calls.increment t n) (increment_same a b t strings n)
  same_call (encoder_stream s o) = stream_alike s o
  same_call (decoder_stream s) =
      record { answer = refl; state = record { table = refl; long = long; strings = reports_same a b t strings s } }
  same_call (decode_header s fs o) = reading_alike _ _ (ap decoded (same_section t a b long strings s (λ f. f) fs o))
  same_call (read_on s fs o) = reading_alike _ _ (ap decoded_numbers (same_section t a b long strings s section.numbers fs o))
  same_call (next_on s room o c) = line_alike s room o c
  same_call (lend d) = record { answer = refl; state = record { table = refl; long = refl; strings = refl } }

  two_calls : {c d : Call} → AlikeCall t c d → AlikeOutcome (calling t a c) (calling t b d)
  two_calls (same c) = same_call c
  two_calls (lent e f w) = record { answer = refl; state = w }

-- "with equal inputs and equal live strings": one call
pub alike_call : (x y : State) → Full x.table → Alike x y → (c d : Call) → AlikeCall x.table c d → AlikeOutcome (called x c) (called y d)
alike_call x y f w c d q =
    subst (λ (u : Table). AlikeOutcome (called x c) (calling u y.arena d)) w.table
    (two_calls x.table f x.arena y.arena w.long
    (w.strings ∙ ap (λ (u : Table). fields_of u.ring y.arena) (sym w.table)) q)
