-- The layout of a protocol that some text says is a text that says it again, apart from places.
use Rattle.std.proofs.Common.{◌≡◌, ℕ, List, [], ◌∷◌, ◌++◌, None, refl, sym, subst, length, inl, inr}
use Rattle.std.proofs.lemmas.Grind.{flat_map-append}
use Rattle.std.proofs.lemmas.List.Folds.{flat_map-map}
use Rattle.std.specs.Prelude.{codes}
use Rattle.std.specs.List.{flat_map, AllByRecursion}
use Rattle.forms.specs.declared.fault.What.TheVariants as Limits
use Rattle.protocol_syntax.specs.declared.protocol.Protocol.{Protocol}
use Rattle.forms.specs.declared.symbol.Keyword.TheVariants as Words
use Rattle.forms.specs.Symbol.{Source, source_of, keyword_of}
use Rattle.forms.specs.Grammar.{optional}
use Rattle.protocol_syntax.specs.Grammar.{IsProtocol, second_language, protocol}
use Rattle.protocol_syntax.proofs.ForCallers.{IsToken, protocol_is_told, protocol_is_uniform, HasWords, Writes, prints_keyword}
use Rattle.protocol_syntax.proofs.ForCallers.{prints_one_of, prints_gives, prints_bind, prints_fixed, prints_last, prints_after}
use Rattle.protocol_syntax.proofs.ForCallers.{prints_absent, prints_present, prints_same, prints_assoc, writes_up_to, words_stand}
use Rattle.forms.proofs.ForCallers.{MayMean, within_may_mean, within_from_said}
use Rattle.protocol_layout.specs.Layout.{language_words, section_words, row_words, rule_words, items, layout}
use Rattle.protocol_layout.specs.Places.{without_places}
use Rattle.protocol_layout.proofs.Lexing.{tokens_of_lines}
use Rattle.protocol_layout.proofs.PartsWritten.{name_again, row_written, section_written, more_sections_written}
use Rattle.protocol_layout.proofs.MovesWritten.{rule_written}

two_is_free : keyword_of (codes "2") ≡ None
unfolding keyword_of
two_is_free = refl

second_language_written : Writes second_language language_words (λ l. l)
unfolding second_language
second_language_written a (u, tu, (w, vw, e)) =
    prints_same language_words (λ (l : ℕ). l) e
    (prints_after (prints_keyword Words.Language)
    (prints_last (prints_one_of (codes "2" ∷ []) (codes "2") 0 refl two_is_free refl) (λ n p. prints_gives 2 refl)))

language_written : Writes (optional 1 second_language) language_words (λ l. l)
language_written a (inl e) = prints_same language_words (λ (l : ℕ). l) e (prints_absent 1 refl)
language_written a (inr v) = prints_present 1 (second_language_written a v)

protocol_words : Protocol → List (List ℕ)
protocol_words p =
    (codes "protocol" ∷ p.name.text ∷ language_words p.language)
    ++ (flat_map section_words p.sections
    ++ (flat_map (row_words (codes "init")) p.init ++ (flat_map rule_words p.rules ++ flat_map (row_words (codes "bad")) p.bad)))

protocol_written : Writes protocol protocol_words without_places
unfolding protocol protocol_words
protocol_written a (u, tu, (n, v, (language, vg, (first, vf, (sections, vs, (init, vi, (rules, vr, (bad, vb, e)))))))) =
    prints_same protocol_words without_places e
    (prints_after (prints_keyword Words.Protocol)
    (prints_bind (name_again n v) (λ m p.
    prints_fixed language (language_written language vg)
    (prints_assoc (section_words first) (flat_map section_words sections) _
    (prints_bind (section_written language 0 first vf) (λ one q.
    prints_bind (more_sections_written language first one q sections vs) (λ more r.
    prints_bind (writes_up_to 32 Limits.InitRows (row_written Words.Init) init vi) (λ start s.
    prints_bind (writes_up_to 256 Limits.Rules (rule_written language) rules vr) (λ steps t.
    prints_last (writes_up_to 32 Limits.BadRows (row_written Words.Bad) bad vb) (λ wrong w.
    prints_gives (record { name = m; language = language; sections = one ∷ more; init = start; rules = steps; bad = wrong })
    (rw (p, q, r, s, t, w) refl)))))))))))

-- the words of the items in their order
words_of_items : (p : Protocol) → flat_map (λ ws. ws) (items p) ≡ protocol_words p
unfolding protocol_words
words_of_items p = simp (flat_map-append, flat_map-map)

tokens_before : (us vs : List (List ℕ)) → AllByRecursion IsToken (us ++ vs) → AllByRecursion IsToken us × AllByRecursion IsToken vs
tokens_before [] vs h = (tt, h)
tokens_before (u ∷ us) vs h = let rest = tokens_before us vs h.1 in ((h.0, rest.0), rest.1)

lines_of_tokens : (lines : List (List (List ℕ))) → AllByRecursion IsToken (flat_map (λ ws. ws) lines) → AllByRecursion (AllByRecursion IsToken) lines
lines_of_tokens [] h = tt
lines_of_tokens (ws ∷ lines) h = let parts = tokens_before ws (flat_map (λ ws. ws) lines) h in (parts.0, lines_of_tokens lines parts.1)

-- what may be said within the limits, the layout says, apart from places
pub layout_says_again : (p : Protocol) → MayMean protocol p → (q : Protocol) × IsProtocol (layout p) q × (without_places q ≡ without_places p)
layout_says_again p may =
    let written = protocol_written p may in
    let same = words_of_items p in
    let lexed = tokens_of_lines (items p) (lines_of_tokens (items p) (subst (AllByRecursion IsToken) (sym same) written.tokens)) in
    let s : Source = source_of (layout p) lexed.0 in
    let stand : HasWords s 0 (protocol_words p) (length lexed.0) =
    subst (λ (ws : List (List ℕ)). HasWords s 0 ws (length lexed.0)) same (words_stand s (flat_map (λ ws. ws) (items p)) [] lexed.0 0 refl refl lexed.2) in
    let again = written.says s 0 (length lexed.0) stand in
    (again.0, (lexed.0, lexed.1, within_from_said s protocol protocol_is_uniform protocol_is_told again.0 again.1), again.2)

-- the layout of a protocol that a text says is a text that says it again
pub layout_says : (source : List ℕ) (p : Protocol) → IsProtocol source p
    → (q : Protocol) × IsProtocol (layout p) q × (without_places q ≡ without_places p)
layout_says source p (tokens, are, within) =
    layout_says_again p (within_may_mean source tokens are protocol protocol_is_uniform protocol_is_told p within)
