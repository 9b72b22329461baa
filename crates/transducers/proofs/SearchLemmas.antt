-- Lemmas on the search for a path that reads one word and writes another.
use Rattle.std.proofs.Common.{◌≡◌, ℕ, ◌+◌, ◌<◌, ◌≤◌, Bool, true, false, List, [], ◌∷◌, ◌++◌, length, drop, slice_get, Some, Contains}
use Rattle.std.proofs.Common.{refl, sym, ap, ◌∙◌, subst, inl, inr, arith, IsTrue, length-drop, get_or, ◌⊎◌, if◌then◌else◌}
use Rattle.std.specs.List.{list_any}
use Rattle.std.proofs.lemmas.List.Elements.{Contains-push_cases, Contains-append_left, Contains-push}
use Rattle.std.proofs.lemmas.Option.{same_Some, slice_get_within, slice_get-get_or}
use Rattle.std.proofs.lemmas.Bool.{cases_lt}
use Rattle.std.proofs.Math.ListN.{drop_of_length-le}
use Rattle.indexmap.specs.IndexSet.{insert_key}
use Rattle.indexmap.proofs.CallerLemmas.{Contains-list_any}
use Rattle.sequence.proofs.ForCallers.{slice_get-append_left, slice_get-push_cases, slice_get-push_last}
use Rattle.word_automata.specs.Path.{edges_of, is_accepting, IsPath, spelled, spelled_one}
use Rattle.transducers.specs.declared.Label.{Label}
use Rattle.transducers.specs.declared.search.Position.{Position}
use Rattle.transducers.specs.Transducer.{Transducer, RelatesFrom, Relates, read_of, write_of}
use Rattle.transducers.specs.Search.{IsAmong, Grows, Inserts, Follows, IsBlocked, IsFollowed, IsEnd, AreStarts, Leads, Expands}
use Rattle.transducers.proofs.ListLemmas.{place_from_Contains, spelled_one-cancel}

-- what an insert into the set of positions leaves
module _ (eq : Position → Position → Bool) (same : (x y : Position) → eq x y ≡ true → x ≡ y) (old : List Position) (p : Position) where
  pub Inserts-insert_key : Inserts old (insert_key eq old p) p
  Inserts-insert_key = by (list_any (eq p) old) refl
    where
      by : (b : Bool) → list_any (eq p) old ≡ b → Inserts old (insert_key eq old p) p
      by true e = subst (λ new. Inserts old new p) (sym (ap (λ c. if c then old else old ++ p ∷ []) e))
          (record {
            grows = record { stays = λ k q h. h; fresh = λ k q h. inl (k, h) };
            inserted = place_from_Contains old p (Contains-list_any eq same old p e);
          })
      by false e = subst (λ new. Inserts old new p) (sym (ap (λ c. if c then old else old ++ p ∷ []) e))
          (record {
            grows = record {
              stays = λ k q h. slice_get-append_left old (p ∷ []) k q h;
              fresh = λ k q h. elim (slice_get-push_cases old p k q h) [ inl at ↦ inl (k, at) | inr is ↦ inr (sym is) ];
            };
            inserted = (length old, slice_get-push_last old p);
          })

-- the start positions, one start more
pub AreStarts-more : (starts : List ℕ) (q : ℕ) (old new : List Position) → AreStarts starts old
    → Inserts old new (record { read = 0; written = 0; state = q })
    → AreStarts (starts ++ q ∷ []) new
AreStarts-more starts q old new so more =
    record {
      all = λ r h. elim (Contains-push_cases starts q r h) [
        | inl before ↦ (let at = so.all r before in (at.0, more.grows.stays at.0 _ at.1))
        | inr is ↦ subst
            (λ x. IsAmong new (record { read = 0; written = 0; state = x })) is more.inserted
      ];
      only = λ k p h. elim (more.grows.fresh k p h) [
        | inl among ↦ (let o = so.only among.0 p among.1 in (o.0, o.1, Contains-append_left starts (q ∷ []) p.state o.2))
        | inr is ↦ subst (λ x. (x.read ≡ 0) × (x.written ≡ 0)
            × Contains (starts ++ q ∷ []) x.state) (sym is) (refl, refl, Contains-push starts q)
      ];
    }

-- what was followed stays so in a larger set
pub IsFollowed-grows : (Q : Position → Type 0) (u w : List ℕ) (old new : List Position) (p : Position) (edge : Label × ℕ)
    → Grows Q old new → IsFollowed u w old p edge → IsFollowed u w new p edge
IsFollowed-grows Q u w old new p edge grows h = elim h
    [ inl blocked ↦ inl blocked | inr found ↦ inr (found.0, found.1, (found.2.0, grows.stays found.2.0 found.0 found.2.1)) ]

module _ (edges : List (Label × ℕ)) (u w : List ℕ) (p : Position) (edge : Label × ℕ) (old : List Position) where
  wider : (q : Position) → Leads edges u w p q → Leads (edges ++ edge ∷ []) u w p q
  wider q l = record { edge = l.edge; is_edge = Contains-append_left edges (edge ∷ []) l.edge l.is_edge; follows = l.follows }

  -- an edge more that leads nowhere
  pub Expands-blocked : (new : List Position) → Expands edges u w p old new → IsBlocked u w p edge
      → Expands (edges ++ edge ∷ []) u w p old new
  Expands-blocked new so blocked =
      record {
        grows = record {
          stays = so.grows.stays;
          fresh = λ k q h. elim (so.grows.fresh k q h)
              [ inl among ↦ inl among | inr leads ↦ inr (wider q leads) ];
        };
        followed = λ e h. elim (Contains-push_cases edges edge e h)
            [ inl before ↦ so.followed e before | inr is ↦ subst (IsFollowed u w new p) is (inl blocked) ];
      }

  -- an edge more that leads to the position q, which was inserted
  pub Expands-followed : (mid new : List Position) (q : Position) → Expands edges u w p old mid → Follows u w p edge q → Inserts mid new q
      → Expands (edges ++ edge ∷ []) u w p old new
  Expands-followed mid new q so follows inserts =
      record {
        grows = record {
          stays = λ k r h. inserts.grows.stays k r (so.grows.stays k r h);
          fresh = λ k r h. elim (inserts.grows.fresh k r h) [
            | inl among ↦ elim (so.grows.fresh among.0 r among.1) [ inl before ↦ inl before | inr leads ↦ inr (wider r leads) ]
            | inr is ↦ inr (subst (Leads (edges ++ edge ∷ []) u w p) (sym is)
                (record { edge = edge; is_edge = Contains-push edges edge; follows = follows }))
          ];
        };
        followed = λ e h. elim (Contains-push_cases edges edge e h) [
          | inl before ↦ IsFollowed-grows (λ r. r ≡ q) u w mid new p e inserts.grows (so.followed e before)
          | inr is ↦ subst (IsFollowed u w new p) is (inr (q, follows, inserts.inserted))
        ];
      }

-- the state of the search: what was found may only lead to related words, and the positions before `next` are done with
pub record IsSearching (t : Transducer) (u w : List ℕ) (found : List Position) (next : ℕ) : Type 0 where
  pub sound : (k : ℕ) (p : Position) → slice_get found k ≡ Some p → RelatesFrom t p.state (drop p.read u) (drop p.written w) → Relates t u w
  pub starts : (q : ℕ) → Contains t.starts q → IsAmong found (record { read = 0; written = 0; state = q })
  pub followed : (k : ℕ) (p : Position) → k < next → slice_get found k ≡ Some p → (edge : Label × ℕ)
      → Contains (edges_of t.states p.state) edge → IsFollowed u w found p edge
  pub no_end : (k : ℕ) (p : Position) → k < next → slice_get found k ≡ Some p → IsEnd t u w p → ⊥

module _ (t : Transducer) (u w : List ℕ) where
  -- an edge and a run behind it are a run
  pub RelatesFrom-step : (p q : Position) (edge : Label × ℕ) → Contains (edges_of t.states p.state) edge → Follows u w p edge q
      → RelatesFrom t q.state (drop q.read u) (drop q.written w) → RelatesFrom t p.state (drop p.read u) (drop p.written w)
  RelatesFrom-step p q edge is_edge follows run =
      record {
        moves = edge ∷ run.moves;
        last = run.last;
        path = (is_edge, subst (λ r. IsPath t.states r run.moves run.last) follows.target run.path);
        accepts = run.accepts;
        reads = ap (λ v. spelled_one edge.0.read ++ v) run.reads ∙ sym follows.reads;
        writes = ap (λ v. spelled_one edge.0.write ++ v) run.writes ∙ sym follows.writes;
      }

  -- one position more is done with
  pub IsSearching-step : (old new : List Position) (next : ℕ) (position : Position) → IsSearching t u w old next
      → slice_get old next ≡ Some position → (IsEnd t u w position → ⊥)
      → Expands (edges_of t.states position.state) u w position old new → IsSearching t u w new (next + 1)
  IsSearching-step old new next position so at no_end expands =
      record {
        sound = λ k p h run. elim (expands.grows.fresh k p h) [
          | inl among ↦ so.sound among.0 p among.1 run
          | inr leads ↦ so.sound next position at (RelatesFrom-step position p leads.edge leads.is_edge leads.follows run)
        ];
        starts = λ q h. let a = so.starts q h in (a.0, expands.grows.stays a.0 _ a.1);
        followed = λ k p below h edge is_edge. elim (before k p below h) [
          | inl old_one ↦ IsFollowed-grows _ u w old new p edge expands.grows (so.followed k p old_one.0 old_one.1 edge is_edge)
          | inr is ↦ (let is_edge' = subst (λ x. Contains (edges_of t.states x.state) edge) is is_edge in subst
              (λ x. IsFollowed u w new x edge) (sym is) (expands.followed edge is_edge'))
        ];
        no_end = λ k p below h ends. elim (before k p below h) [
          | inl old_one ↦ so.no_end k p old_one.0 old_one.1 ends
          | inr is ↦ no_end (subst (IsEnd t u w) is ends)
        ];
      }
    where
      within : next < length old
      within = slice_get_within old next position at

      before : (k : ℕ) (p : Position) → k < next + 1 → slice_get new k ≡ Some p → ((k < next) × (slice_get old k ≡ Some p)) ⊎ (p ≡ position)
      before k p below h =
          let old_at : slice_get old k ≡ Some (get_or old k position) = slice_get-get_or old k position (omega (arith, within)) in
          let same : get_or old k position ≡ p = same_Some _ _ (sym (expands.grows.stays k _ old_at) ∙ h) in
          let here : slice_get old k ≡ Some p = old_at ∙ ap Some same in
          elim (cases_lt k next) [
            | inl lt ↦ inl (lt, here)
            | inr ge ↦
                (let same_place : k ≡ next = omega arith in inr (same_Some _ _ (sym here ∙ ap (λ n. slice_get old n) same_place ∙ at)))
          ]

  -- a run from a position that was found does not exist where all are done with and none is an end
  no_run : (found : List Position) (next : ℕ) → IsSearching t u w found next → length found ≤ next
      → (moves : List (Label × ℕ)) (last : ℕ) (k : ℕ) (p : Position)
      → slice_get found k ≡ Some p → IsPath t.states p.state moves last → IsTrue (is_accepting t.states last)
      → spelled read_of moves ≡ drop p.read u → spelled write_of moves ≡ drop p.written w → ⊥
  no_run found next so all [] last k p at path accepts reads writes =
      so.no_end k p (omega (arith, slice_get_within found k p at)) at
      (record {
        read_all = omega (arith, length-drop p.read u, ap length reads);
        written_all = omega (arith, length-drop p.written w, ap length writes);
        accepts = subst (λ q. IsTrue (is_accepting t.states q)) (sym path) accepts;
      })
  no_run found next so all (edge ∷ moves) last k p at path accepts reads writes =
      elim (so.followed k p (omega (arith, slice_get_within found k p at)) at edge path.0) [
        | inl blocked ↦ blocked (spelled read_of moves) (spelled write_of moves) (sym reads) (sym writes)
        | inr (q, follows, among) ↦
            no_run found next so all moves last among.0 q among.1
            (subst (λ r. IsPath t.states r moves last) (sym follows.target) path.1) accepts
            (spelled_one-cancel edge.0.read _ _ (reads ∙ follows.reads)) (spelled_one-cancel edge.0.write _ _ (writes ∙ follows.writes))
      ]

  -- at the end, with no end found, the words are not related
  pub not_related : (found : List Position) (next : ℕ) → IsSearching t u w found next → length found ≤ next → Relates t u w → ⊥
  not_related found next so all r =
      let a = so.starts r.start r.is_start in
      no_run found next so all r.run.moves r.run.last a.0 _ a.1 r.run.path r.run.accepts r.run.reads r.run.writes

  -- at an end, the words are related
  pub related : (found : List Position) (next : ℕ) (p : Position) → IsSearching t u w found next → slice_get found next ≡ Some p
      → IsEnd t u w p → Relates t u w
  related found next p so at ends =
      so.sound next p at (record {
        moves = [];
        last = p.state;
        path = refl;
        accepts = ends.accepts;
        reads = sym (drop_of_length-le u ends.read_all);
        writes = sym (drop_of_length-le w ends.written_all);
      })
