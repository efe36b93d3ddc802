-- Texts that are written piece by piece.
use Rattle.std.proofs.Common.{◌≡◌, ℕ, List, [], ◌∷◌, ◌++◌, codes, length, map, refl, sym, ap, ◌∙◌, append_assoc, arith}
use Rattle.std.specs.List.{flat_map}
use Rattle.std.proofs.lemmas.List.Folds.{flat_map-map}
use Rattle.kadm_values.specs.Flags.{row_of}
use Rattle.kadm_replies.specs.Princs.{flag_text, flag_texts}
use Rattle.kadm_values.specs.declared.flags.Flag.{Flag}

-- ---- pieces one behind the other

pub two : (a b out one two' : List ℕ) → one ≡ out ++ a → two' ≡ one ++ b → two' ≡ out ++ (a ++ b)
two a b out one two' e f = f ∙ ap (λ (t : List ℕ). t ++ b) e ∙ append_assoc out a b

pub flags_two : (flag : Flag) (others flags : List Flag) (out one two' : List ℕ) → flags ≡ flag ∷ others
    → one ≡ out ++ flag_text (row_of flag)
    → two' ≡ one ++ flat_map (λ other. 32 ∷ flag_text (row_of other)) others
    → two' ≡ out ++ flag_texts (map row_of flags)
unfolding flag_texts
flags_two flag others flags out one two' is e f =
    two (flag_text (row_of flag)) (flat_map (λ other. 32 ∷ flag_text (row_of other)) others) out one two' e f
    ∙ ap (λ (t : List ℕ). out ++ (flag_text (row_of flag) ++ t))
    (sym (flat_map-map (λ row. 32 ∷ flag_text row) row_of others))
    ∙ ap (λ (fs : List Flag). out ++ flag_texts (map row_of fs)) (sym is)

pub flags_none : (flags : List Flag) (out one : List ℕ) → length flags ≡ 0 → one ≡ out ++ codes "none"
    → one ≡ out ++ flag_texts (map row_of flags)
unfolding flag_texts
flags_none [] out one none e = e
flags_none (flag ∷ flags) out one none e = absurd (omega arith)
