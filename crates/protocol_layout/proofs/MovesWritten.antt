-- The words of moves, steps and rules say them again.
use Rattle.std.proofs.Common.{◌≡◌, ℕ, List, [], ◌∷◌, Bool, true, false, Some, None, map, nat_le, refl, ap, inl, inr, cond}
use Rattle.std.specs.Prelude.{codes, ⊤}
use Rattle.std.specs.List.{flat_map}
use Rattle.protocol_lexer.specs.declared.TokenKind.TheVariants.{Arrow}
use Rattle.forms.specs.declared.fault.What.TheVariants as Limits
use Rattle.forms.specs.declared.name.Name.{Name}
use Rattle.protocol_syntax.specs.declared.protocol.Move.TheVariants as Moves
use Rattle.protocol_syntax.specs.declared.protocol.Region.{Region}
use Rattle.protocol_syntax.specs.declared.protocol.Region.TheVariants as Regions
use Rattle.forms.specs.declared.symbol.Keyword.{Keyword}
use Rattle.forms.specs.declared.symbol.Keyword.TheVariants as Words
use Rattle.forms.specs.declared.symbol.Symbol.TheVariants.{Sign}
use Rattle.forms.specs.Grammar.{sign, optional}
use Rattle.protocol_syntax.specs.Grammar.{quantifier, region, guard, entry, table, at_move, four_names, pair_move, ring_move, two_move, set_move, send_move, recv_move, pushed, pop_move, push_move, channel_or_stack_move, common_move, spawn_move, exit_move, lose_move, later_move, any_move, step, rule}
use Rattle.protocol_syntax.specs.MoveLetters.{renamed_guard, renamed_pair}
use Rattle.protocol_syntax.proofs.ForCallers.{IsToken-arrow, Prints, Writes, spelling, prints_sign, prints_keyword, prints_means}
use Rattle.protocol_syntax.proofs.ForCallers.{prints_gives, prints_bind, prints_last, prints_after, prints_left, prints_right}
use Rattle.protocol_syntax.proofs.ForCallers.{prints_absent, prints_present, prints_only, prints_same, writes_many, writes_up_to}
use Rattle.protocol_layout.specs.Layout.{in_braces, region_word, guard_words, entry_words, table_words, pushed_words, four_words, move_words, step_words, rule_words}
use Rattle.protocol_layout.specs.Places.{name_without_place, move_without_places, step_without_places, rule_without_places}
use Rattle.protocol_layout.proofs.PartsWritten.{left_brace, right_brace, colon, semicolon, name_again, names_up_to_written, set_written, base_written}

arrow : Prints (sign (Sign Arrow)) (λ _. ⊤) (codes "->" ∷ [])
arrow = prints_sign (Sign Arrow) (codes "->") IsToken-arrow refl

quantifier_written : (all : Bool) → Prints quantifier (λ b. b ≡ all) (cond all (codes "all") (codes "some") ∷ [])
unfolding quantifier
quantifier_written true = prints_left (prints_means Words.All true refl)
quantifier_written false = prints_right (prints_means Words.Some false refl)

region_written : (r : Region) → Prints region (λ s. s ≡ r) (region_word r ∷ [])
unfolding region
region_written Regions.Left = prints_left (prints_means Words.Left Regions.Left refl)
region_written Regions.Right = prints_right (prints_left (prints_means Words.Right Regions.Right refl))
region_written Regions.Others = prints_right (prints_right (prints_means Words.Others Regions.Others refl))

guard_written : Writes guard guard_words (renamed_guard name_without_place)
unfolding guard
guard_written a (u, tu, (all, va, (r, vr, (w, tw, (letters, v, e))))) =
    prints_same guard_words (renamed_guard name_without_place) e
    (prints_after (prints_keyword Words.When)
    (prints_bind (quantifier_written all) (λ b p.
    prints_bind (region_written r) (λ s q.
    prints_after (prints_keyword Words.In)
    (prints_last (set_written letters v) (λ found t.
    prints_gives (record { all = b; region = s; letters = found }) (rw (p, q, t) refl)))))))

entry_written : Writes entry entry_words (renamed_pair name_without_place)
unfolding entry
entry_written a (from, v, (u, tu, (to, w, (x, tx, e)))) =
    prints_same entry_words (renamed_pair name_without_place) e
    (prints_bind (name_again from v) (λ m p.
    prints_after arrow
    (prints_bind (name_again to w) (λ n q.
    prints_after semicolon
    (prints_gives (m, n) (rw (p, q) refl))))))

full_table_words : List (Name × Name) → List (List ℕ)
full_table_words entries = codes "map" ∷ in_braces (flat_map entry_words entries)

table_written : Writes table full_table_words (map (renamed_pair name_without_place))
unfolding table full_table_words
table_written a (u, tu, (w, tw, (entries, v, (x, tx, e)))) =
    prints_same full_table_words (map (renamed_pair name_without_place)) e
    (prints_after (prints_keyword Words.Map)
    (prints_after left_brace
    (prints_bind (writes_many entry_written entries v) (λ found p.
    prints_after right_brace (prints_gives found p)))))

-- a table without an entry is left out
optional_table_written : Writes (optional [] table) table_words (map (renamed_pair name_without_place))
unfolding full_table_words
optional_table_written [] v = prints_absent [] refl
optional_table_written (e ∷ entries) (inl none) = absurd cc
optional_table_written (e ∷ entries) (inr v) = prints_present [] (table_written (e ∷ entries) v)

at_written : Writes at_move move_words move_without_places
unfolding at_move
at_written a (u, tu, (from, vf, (x, tx, (to, vt, (guards, vg, (map, vm, e)))))) =
    prints_same move_words move_without_places e
    (prints_after (prints_keyword Words.At)
    (prints_bind (name_again from vf) (λ f p.
    prints_after arrow
    (prints_bind (name_again to vt) (λ t q.
    prints_bind (writes_up_to 4 Limits.Guards guard_written guards vg) (λ found r.
    prints_last (optional_table_written map vm) (λ entries s.
    prints_gives (Moves.At f t found entries) (rw (p, q, r, s) refl))))))))

abbrev Four : Type 0
Four = Name × Name × Name × Name

four_without_places : Four → Four
four_without_places n = (name_without_place n.0, name_without_place n.1, name_without_place n.2, name_without_place n.3)

four_written : (word : Keyword) → Writes (four_names word) (λ n. four_words (spelling word) n.0 n.1 n.2 n.3) four_without_places
unfolding four_names four_without_places
four_written word a (u, tu, (b, vb, (c, vc, (x, tx, (d, vd, (e, ve, same)))))) =
    prints_same (λ n. four_words (spelling word) n.0 n.1 n.2 n.3) four_without_places same
    (prints_after (prints_keyword word)
    (prints_bind (name_again b vb) (λ b2 p.
    prints_bind (name_again c vc) (λ c2 q.
    prints_after arrow
    (prints_bind (name_again d vd) (λ d2 r.
    prints_bind (name_again e ve) (λ e2 s.
    prints_gives (b2, c2, d2, e2) (rw (p, q, r, s) refl))))))))

pushed_written : Writes pushed pushed_words (map name_without_place)
unfolding pushed
pushed_written a (u, tu, (first, v, (rest, w, e))) =
    prints_same pushed_words (map name_without_place) e
    (prints_after (prints_keyword Words.Push)
    (prints_bind (name_again first v) (λ n p.
    prints_last (names_up_to_written 3 Limits.Pushed rest w) (λ found q.
    prints_gives (n ∷ found) (rw (p, q) refl)))))

optional_pushed_written : Writes (optional [] pushed) pushed_words (map name_without_place)
optional_pushed_written a (inl e) = prints_same pushed_words (map name_without_place) e (prints_absent [] refl)
optional_pushed_written a (inr v) = prints_present [] (pushed_written a v)

queue_written : Writes channel_or_stack_move move_words move_without_places
unfolding channel_or_stack_move send_move recv_move pop_move push_move
queue_written a (inl (u, tu, (n, v, e))) =
    prints_same move_words move_without_places e (prints_left (prints_after (prints_keyword Words.Send) (prints_bind (name_again n v) (λ m p. prints_gives (Moves.Send m) (ap Moves.Send p)))))
queue_written a (inr (inl (u, tu, (n, v, e)))) =
    prints_same move_words move_without_places e
    (prints_right (prints_left (prints_after (prints_keyword Words.Recv) (prints_bind (name_again n v) (λ m p. prints_gives (Moves.Recv m) (ap Moves.Recv p))))))
queue_written a (inr (inr (inl (u, tu, (n, v, (push, w, e)))))) =
    prints_same move_words move_without_places e
    (prints_right (prints_right (prints_left
    (prints_after (prints_keyword Words.Pop)
    (prints_bind (name_again n v) (λ m p.
    prints_last (optional_pushed_written push w) (λ found q.
    prints_gives (Moves.Stack (Some m) found) (rw (p, q) refl))))))))
queue_written a (inr (inr (inr (push, v, e)))) =
    prints_same move_words move_without_places e
    (prints_right (prints_right (prints_right
    (prints_last (pushed_written push v) (λ found p. prints_gives (Moves.Stack None found) (rw p refl))))))

common_move_written : Writes common_move move_words move_without_places
unfolding common_move pair_move ring_move two_move set_move four_without_places
common_move_written a (inl v) = prints_left (at_written a v)
common_move_written a (inr (inl (n, v, e))) =
    prints_same move_words move_without_places e
    (prints_right (prints_left (prints_last (four_written Words.Pair n v) (λ m p. prints_gives (Moves.Pair m.0 m.1 m.2 m.3) (ap (λ (f : Four). Moves.Pair f.0 f.1 f.2 f.3) p)))))
common_move_written a (inr (inr (inl (n, v, e)))) =
    prints_same move_words move_without_places e
    (prints_right (prints_right (prints_left
    (prints_last (four_written Words.Ring n v) (λ m p. prints_gives (Moves.Ring m.0 m.1 m.2 m.3) (ap (λ (f : Four). Moves.Ring f.0 f.1 f.2 f.3) p))))))
common_move_written a (inr (inr (inr (inl (n, v, e))))) =
    prints_same move_words move_without_places e
    (prints_right (prints_right (prints_right (prints_left
    (prints_last (four_written Words.Two n v) (λ m p. prints_gives (Moves.Two m.0 m.1 m.2 m.3) (ap (λ (f : Four). Moves.Two f.0 f.1 f.2 f.3) p)))))))
common_move_written a (inr (inr (inr (inr (inl (u, tu, (from, v, (x, tx, (to, w, e))))))))) =
    prints_same move_words move_without_places e
    (prints_right (prints_right (prints_right (prints_right (prints_left
    (prints_after (prints_keyword Words.Set)
    (prints_bind (name_again from v) (λ f p.
    prints_after arrow
    (prints_bind (name_again to w) (λ t q.
    prints_gives (Moves.Set f t) (rw (p, q) refl)))))))))))
common_move_written a (inr (inr (inr (inr (inr v))))) =
    prints_right (prints_right (prints_right (prints_right (prints_right (queue_written a v)))))

later_move_written : Writes later_move move_words move_without_places
unfolding later_move spawn_move exit_move lose_move
later_move_written a (inl (u, tu, (n, v, e))) =
    prints_same move_words move_without_places e
    (prints_left (prints_after (prints_keyword Words.Spawn) (prints_bind (name_again n v) (λ m p. prints_gives (Moves.Spawn m) (ap Moves.Spawn p)))))
later_move_written a (inr (inl (u, tu, (n, v, e)))) =
    prints_same move_words move_without_places e
    (prints_right (prints_left (prints_after (prints_keyword Words.Exit) (prints_bind (name_again n v) (λ m p. prints_gives (Moves.Exit m) (ap Moves.Exit p))))))
later_move_written a (inr (inr (u, tu, (b, v, e)))) =
    prints_same move_words move_without_places e
    (prints_right (prints_right (prints_after (prints_keyword Words.Lose) (prints_last (base_written b v) (λ c p. prints_gives (Moves.Lose c) (ap Moves.Lose p))))))

move_written : (language : ℕ) → Writes (any_move language) move_words move_without_places
unfolding any_move
move_written language a (inl v) = prints_left (prints_only (nat_le 2 language) v.0 (later_move_written a v.1))
move_written language a (inr v) = prints_right (common_move_written a v)

step_written : (language : ℕ) → Writes (step language) step_words step_without_places
unfolding step
step_written language a (n, v, (u, tu, (body, w, (x, tx, e)))) =
    prints_same step_words step_without_places e
    (prints_bind (name_again n v) (λ m p.
    prints_after colon
    (prints_bind (move_written language body w) (λ b q.
    prints_after semicolon
    (prints_gives (record { section = m; body = b }) (rw (p, q) refl))))))

pub rule_written : (language : ℕ) → Writes (rule language) rule_words rule_without_places
unfolding rule
rule_written language a (u, tu, (n, v, (w, tw, (moves, vm, (x, tx, e))))) =
    prints_same rule_words rule_without_places e
    (prints_after (prints_keyword Words.Rule)
    (prints_bind (name_again n v) (λ m p.
    prints_after left_brace
    (prints_bind (writes_many (step_written language) moves vm) (λ found q.
    prints_after right_brace
    (prints_gives (record { name = m; moves = found }) (rw (p, q) refl)))))))
