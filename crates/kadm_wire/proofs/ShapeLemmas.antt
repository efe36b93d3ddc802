-- The shape that is read of words is the one that they spell.
use Rattle.std.proofs.Common.{◌≡◌, ℕ, Bool, true, false, not, ◌||◌, Option, Some, None, option_map, Result}
use Rattle.std.proofs.Common.{Ok, Err, IfOk, List, [], ◌∷◌, codes, ◌⊎◌, inl, inr, refl, sym, ap, subst, ◌∙◌}
use Rattle.std.specs.Str.{bytes_eq}
use Rattle.std.proofs.lemmas.Slice.Eq.{bytes_eq-Decides}
use Rattle.kadm_options.specs.Options.{EndsOptions, OptionParts, ends_options, is_dashes, is_signed, options_from}
use Rattle.kadm_options.proofs.OptionLemmas.{read_is_spelled, spelled_is_read}
use Rattle.kadm_wire.specs.Shapes.{BeginsPlain, Shape, SpellsOthers, SpellsShape, others_in}
use Rattle.kadm_wire.specs.Shapes.{shape_behind, shape_by, shape_in, shape_with}
use Rattle.kadm_wire.specs.Verbs.{named_by, verb_named}
use Rattle.kadm_wire.specs.declared.verbs.Verb.{Verb}

same_bytes : (xs ys : List ℕ) → bytes_eq xs ys ≡ true → xs ≡ ys
same_bytes xs ys e = (bytes_eq-Decides xs ys).0 e

-- ---- two dashes

plain_no_dashes : (word : List ℕ) (dashes : Bool) → is_dashes word ≡ dashes → is_signed word ≡ false → dashes ≡ false
unfolding is_dashes is_signed
plain_no_dashes word true e plain = let signed = rw (same_bytes word (codes "--") e) at plain in cc
plain_no_dashes word false e plain = refl

other_is_plain : (word : List ℕ) (signed : Bool) → is_dashes word ≡ false → is_signed word ≡ signed
    → ends_options word ≡ true → signed ≡ false
unfolding ends_options
other_is_plain word true other is ends = let e = rw (other, is) at ends in cc
other_is_plain word false other is ends = refl

first_spelled : (word : List ℕ) (words : List (List ℕ)) (dashes : Bool) → is_dashes word ≡ dashes
    → ends_options word ≡ true
    → SpellsOthers (others_in (word ∷ words)) (word ∷ words)
unfolding others_in is_dashes BeginsPlain
first_spelled word words true is ends = rw is (inl (ap (λ (w : List ℕ). w ∷ words) (same_bytes word (codes "--") is)))
first_spelled word words false is ends = rw is (inr (refl, other_is_plain word (is_signed word) is refl ends))

others_spelled : (rest : List (List ℕ)) → EndsOptions rest → SpellsOthers (others_in rest) rest
unfolding others_in EndsOptions BeginsPlain
others_spelled [] ends = inr (refl, tt)
others_spelled (word ∷ words) ends = first_spelled word words (is_dashes word) refl ends

plain_ends : (word : List ℕ) → is_signed word ≡ false → ends_options word ≡ true
unfolding ends_options
plain_ends word plain = rw (plain_no_dashes word (is_dashes word) refl plain, plain) refl

plain_are_others : (others : List (List ℕ)) → BeginsPlain others → EndsOptions others × (others_in others ≡ others)
unfolding others_in EndsOptions BeginsPlain
plain_are_others [] plain = (tt, refl)
plain_are_others (word ∷ words) plain =
    (plain_ends word plain, rw (plain_no_dashes word (is_dashes word) refl plain) refl)

dashes_before : (others : List (List ℕ))
    → EndsOptions (codes "--" ∷ others) × (others_in (codes "--" ∷ others) ≡ others)
unfolding others_in EndsOptions ends_options is_dashes
dashes_before others = (refl, refl)

others_are : (others rest : List (List ℕ)) → (rest ≡ codes "--" ∷ others) ⊎ ((rest ≡ others) × BeginsPlain others)
    → EndsOptions rest × (others_in rest ≡ others)
others_are others rest (inl e) =
    subst (λ (ws : List (List ℕ)). EndsOptions ws × (others_in ws ≡ others)) (sym e) (dashes_before others)
others_are others rest (inr e) =
    subst (λ (ws : List (List ℕ)). EndsOptions ws × (others_in ws ≡ others)) (sym e.0) (plain_are_others others e.1)

-- ---- the shape of words

spelled_read : (shape : Shape) (words : List (List ℕ)) (s : SpellsShape shape words)
    → option_map (shape_with shape.verb) (options_from (named_by shape.verb) None s.arguments) ≡ Some shape
spelled_read shape words s =
    let others = others_are shape.others s.rest s.others in
    let parts : OptionParts = record { options = shape.options; rest = s.rest } in
    ap (option_map (shape_with shape.verb))
    (spelled_is_read (named_by shape.verb) s.arguments parts (record { options = s.options; ends = others.0 }))
    ∙ ap (λ (ws : List (List ℕ)). Some (record { verb = shape.verb; options = shape.options; others = ws })) others.1

named_shape : (word : List ℕ) (words : List (List ℕ)) (verb : Verb) → verb_named word ≡ Some verb
    → shape_in (word ∷ words) ≡ shape_behind verb words
unfolding shape_in
named_shape word words verb named = ap (λ (v : Option Verb). shape_by v words) named

pub spelled_shape : (shape : Shape) (words : List (List ℕ)) → SpellsShape shape words → shape_in words ≡ Some shape
spelled_shape shape words s =
    ap (λ (ws : List (List ℕ)). shape_in ws) s.words_are ∙ named_shape s.word s.arguments shape.verb s.verb
    ∙ spelled_read shape words s

behind_spelled : (verb : Verb) (word : List ℕ) (words : List (List ℕ)) (r : Option OptionParts) (shape : Shape)
    → verb_named word ≡ Some verb
    → options_from (named_by verb) None words ≡ r → option_map (shape_with verb) r ≡ Some shape
    → SpellsShape shape (word ∷ words)
behind_spelled verb word words None shape named is e = cc
behind_spelled verb word words (Some parts) shape named is e =
    let s = read_is_spelled (named_by verb) words parts is in
    let same : shape_with verb parts ≡ shape = cc in
    subst (λ (x : Shape). SpellsShape x (word ∷ words)) same (record {
      word = word;
      arguments = words;
      rest = parts.rest;
      words_are = refl;
      verb = named;
      options = s.options;
      others = others_spelled parts.rest s.ends;
    })

named_spelled : (word : List ℕ) (words : List (List ℕ)) (r : Option Verb) (shape : Shape) → verb_named word ≡ r
    → shape_by r words ≡ Some shape
    → SpellsShape shape (word ∷ words)
named_spelled word words None shape named e = cc
named_spelled word words (Some verb) shape named e =
    behind_spelled verb word words (options_from (named_by verb) None words) shape named refl e

-- the shape that is read of words is the one that they spell
pub shape_spelled : (shape : Shape) (words : List (List ℕ)) → shape_in words ≡ Some shape → SpellsShape shape words
unfolding shape_in
shape_spelled shape [] e = cc
shape_spelled shape (word ∷ words) e = named_spelled word words (verb_named word) shape refl e
