-- What memory moves relate, from the words of their transducers.
use Rattle.std.proofs.Common.{◌≡◌, ℕ, ◌+◌, ◌<◌, ◌≤◌, List, [], ◌∷◌, ◌++◌, map, Option, Some, None, refl, sym, ap, ◌∙◌, subst, arith, All}
use Rattle.std.proofs.lemmas.List.{append-nil, map-append}
use Rattle.std.proofs.lemmas.List.Elements.{All-nil, All-cons, All-append}
use Rattle.transducers.specs.Combination.{exchange}
use Rattle.protocol_syntax.specs.declared.protocol.Move.TheVariants.{Set, Send, Recv, Stack}
use Rattle.protocol_model.specs.System.{AllBelow}
use Rattle.protocol_model.specs.Words.{raised}
use Rattle.protocol_model.specs.Moves.{IsMove, popped}
use Rattle.protocol_model.specs.Raised.{IsRaisedMove}
use Rattle.protocol_model.proofs.ForCallers.{AllBelow-left, AllBelow-right, AllBelow-append}
use Rattle.memory_moves.specs.private.Machine.{IsLabel, IsCopiedBetween, reading, writing, stack_prefix, read_word, written_word}

-- labels in range
IsLabel-reading : (letters a : ℕ) → a < letters → IsLabel letters (reading a)
IsLabel-reading letters a h = record { read_in_range = h; write_in_range = tt }

IsLabel-writing : (letters a : ℕ) → a < letters → IsLabel letters (writing a)
IsLabel-writing letters a h = record { read_in_range = tt; write_in_range = h }

All-single : {X : Type 0} (P : X → Type 0) (x : X) → P x → All P (x ∷ [])
All-single P x h = All-cons P x [] h (All-nil P)

module _ (offset count : ℕ) where
  writings_in_range : (letters : ℕ) (push : List ℕ) → offset + count ≤ letters → AllBelow count push
      → All (IsLabel letters) (map (λ a. writing (a + offset)) push)
  writings_in_range letters [] fits h = All-nil (IsLabel letters)
  writings_in_range letters (a ∷ push) fits h =
      All-cons (IsLabel letters) (writing (a + offset)) (map (λ a. writing (a + offset)) push)
      (IsLabel-writing letters (a + offset) (omega (arith, h.0))) (writings_in_range letters push fits h.1)

  pub stack_in_range : (letters : ℕ) (pop : Option ℕ) (push : List ℕ) → offset + count ≤ letters → AllBelow count (popped pop ++ push)
      → All (IsLabel letters) (stack_prefix offset pop push)
  stack_in_range letters None push fits valid = writings_in_range letters push fits valid
  stack_in_range letters (Some a) push fits valid =
      All-append (IsLabel letters) (reading (a + offset) ∷ []) (map (λ a. writing (a + offset)) push)
      (All-single (IsLabel letters) (reading (a + offset)) (IsLabel-reading letters (a + offset) (omega (arith, valid.0))))
      (writings_in_range letters push fits valid.1)

  -- what the labels of a stack move read and write
  reads-writings : (push : List ℕ) → read_word (map (λ a. writing (a + offset)) push) ≡ []
  reads-writings [] = refl
  reads-writings (a ∷ push) = reads-writings push

  writes-writings : (push : List ℕ) → written_word (map (λ a. writing (a + offset)) push) ≡ raised offset push
  writes-writings [] = refl
  writes-writings (a ∷ push) = ap (λ v. (a + offset) ∷ v) (writes-writings push)

  reads-stack : (pop : Option ℕ) (push : List ℕ) → read_word (stack_prefix offset pop push) ≡ raised offset (popped pop)
  reads-stack None push = reads-writings push
  reads-stack (Some a) push = ap (λ v. (a + offset) ∷ v) (reads-writings push)

  writes-stack : (pop : Option ℕ) (push : List ℕ) → written_word (stack_prefix offset pop push) ≡ raised offset push
  writes-stack None push = writes-writings push
  writes-stack (Some a) push = writes-writings push

  -- a front of the list becomes another
  front_is : (before front copied : List ℕ) → before ≡ raised offset front
      → before ++ (raised offset copied ++ []) ≡ raised offset (front ++ copied)
  front_is before front copied e =
      ap (λ v. v ++ (raised offset copied ++ [])) e ∙ ap (λ v. raised offset front ++ v) (append-nil (raised offset copied))
      ∙ sym (map-append (λ a. a + offset) front copied)

module _ (offset count : ℕ) (u w : List ℕ) where
  pub cell_relates : (a b : ℕ) → AllBelow count (a ∷ b ∷ [])
      → (IsCopiedBetween (exchange (a + offset) (b + offset) ∷ []) None offset 0 u w → IsRaisedMove (IsMove (Set a b)) offset count u w)
      × (IsRaisedMove (IsMove (Set a b)) offset count u w → IsCopiedBetween (exchange (a + offset) (b + offset) ∷ []) None offset 0 u w)
  cell_relates a b valid = (
    λ so. there so.copied so.in_range so.reads so.writes,
    λ m. record {
      copied = [];
      in_range = tt;
      reads = m.word_before ∙ ap (λ s. raised offset s) m.leads.0;
      writes = m.word_after ∙ ap (λ s. raised offset s) m.leads.1;
    },
  )
    where
      there : (copied : List ℕ) → AllBelow 0 copied → u ≡ (a + offset) ∷ (raised offset copied ++ [])
          → w ≡ (b + offset) ∷ (raised offset copied ++ []) → IsRaisedMove (IsMove (Set a b)) offset count u w
      there [] h reads writes = record {
        old = a ∷ [];
        new = b ∷ [];
        old_in_range = (valid.0, tt);
        new_in_range = (valid.1.0, tt);
        word_before = reads;
        word_after = writes;
        leads = (refl, refl);
      }
      there (x ∷ copied) h reads writes = absurd (omega (arith, h.0))

  pub send_relates : (a : ℕ) → a < count
      → (IsCopiedBetween [] (Some (writing (a + offset))) offset count u w → IsRaisedMove (IsMove (Send a)) offset count u w)
      × (IsRaisedMove (IsMove (Send a)) offset count u w → IsCopiedBetween [] (Some (writing (a + offset))) offset count u w)
  send_relates a valid = (
    λ so. record {
      old = so.copied;
      new = so.copied ++ a ∷ [];
      old_in_range = so.in_range;
      new_in_range = AllBelow-append count so.copied (a ∷ []) so.in_range (valid, tt);
      word_before = so.reads ∙ append-nil (raised offset so.copied);
      word_after = so.writes ∙ sym (map-append (λ x. x + offset) so.copied (a ∷ []));
      leads = refl;
    },
    λ m. record {
      copied = m.old;
      in_range = m.old_in_range;
      reads = m.word_before ∙ sym (append-nil (raised offset m.old));
      writes = m.word_after ∙ ap (λ s. raised offset s) m.leads ∙ map-append (λ x. x + offset) m.old (a ∷ []);
    },
  )

  pub receive_relates : (a : ℕ) → a < count
      → (IsCopiedBetween (reading (a + offset) ∷ []) None offset count u w → IsRaisedMove (IsMove (Recv a)) offset count u w)
      × (IsRaisedMove (IsMove (Recv a)) offset count u w → IsCopiedBetween (reading (a + offset) ∷ []) None offset count u w)
  receive_relates a valid = (
    λ so. record {
      old = a ∷ so.copied;
      new = so.copied;
      old_in_range = (valid, so.in_range);
      new_in_range = so.in_range;
      word_before = so.reads ∙ front_is offset count ((a + offset) ∷ []) (a ∷ []) so.copied refl;
      word_after = so.writes ∙ append-nil (raised offset so.copied);
      leads = refl;
    },
    λ m. record {
      copied = m.new;
      in_range = m.new_in_range;
      reads = m.word_before ∙ ap (λ s. raised offset s) m.leads ∙ sym (front_is offset count ((a + offset) ∷ []) (a ∷ []) m.new refl);
      writes = m.word_after ∙ sym (append-nil (raised offset m.new));
    },
  )

  pub stack_relates : (pop : Option ℕ) (push : List ℕ) → AllBelow count (popped pop ++ push)
      → (IsCopiedBetween (stack_prefix offset pop push) None offset count u w → IsRaisedMove (IsMove (Stack pop push)) offset count u w)
      × (IsRaisedMove (IsMove (Stack pop push)) offset count u w → IsCopiedBetween (stack_prefix offset pop push) None offset count u w)
  stack_relates pop push valid = (
    λ so. record {
      old = popped pop ++ so.copied;
      new = push ++ so.copied;
      old_in_range = AllBelow-append count (popped pop) so.copied (AllBelow-left count (popped pop) push valid) so.in_range;
      new_in_range = AllBelow-append count push so.copied (AllBelow-right count (popped pop) push valid) so.in_range;
      word_before = so.reads ∙ front_is offset count (read_word (stack_prefix offset pop push)) (popped pop) so.copied (reads-stack offset count pop push);
      word_after = so.writes ∙ front_is offset count (written_word (stack_prefix offset pop push)) push so.copied (writes-stack offset count pop push);
      leads = record { below = so.copied; was = refl; becomes = refl };
    },
    λ m. record {
      copied = m.leads.below;
      in_range = AllBelow-right count (popped pop) m.leads.below (subst (λ s. AllBelow count s) m.leads.was m.old_in_range);
      reads = m.word_before ∙ ap (λ s. raised offset s) m.leads.was
          ∙ sym (front_is offset count (read_word (stack_prefix offset pop push)) (popped pop) m.leads.below (reads-stack offset count pop push));
      writes = m.word_after ∙ ap (λ s. raised offset s) m.leads.becomes
          ∙ sym (front_is offset count (written_word (stack_prefix offset pop push)) push m.leads.below (writes-stack offset count pop push));
    },
  )
