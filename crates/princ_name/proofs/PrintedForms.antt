-- Printing text by text.
use Rattle.std.proofs.Common.{◌≡◌, ℕ, ◌+◌, ◌<◌, ◌≤◌, List, [], ◌∷◌, ◌++◌, length, drop}
use Rattle.std.proofs.Common.{get_or, refl, sym, ap, ◌∙◌, append_assoc, append-nil}
use Rattle.std.proofs.lemmas.List.{drop_more, drop_all}
use Rattle.princ_name.specs.Bytes.{printed_byte}
use Rattle.princ_name.specs.Names.{printed_text, printed_parts, behind_parts}
use Rattle.princ_name.specs.PrintedLaws.{behind-cons, behind-nil, parts-cons}

text-cons : (b : ℕ) (text : List ℕ) → printed_text (b ∷ text) ≡ printed_byte b ++ printed_text text
unfolding printed_text
text-cons b text = refl

text-nil : printed_text [] ≡ []
unfolding printed_text
text-nil = refl

pub text-more : (text old new whole : List ℕ) (i : ℕ) → i < length text → new ≡ old ++ printed_byte (get_or text i 0)
    → old ++ printed_text (drop i text) ≡ whole → new ++ printed_text (drop (i + 1) text) ≡ whole
text-more text old new whole i lt is h =
    ap (λ w. w ++ printed_text (drop (i + 1) text)) is
    ∙ append_assoc old (printed_byte (get_or text i 0)) (printed_text (drop (i + 1) text))
    ∙ ap (λ w. old ++ w)
    (sym (ap printed_text (drop_more text i 0 lt) ∙ text-cons (get_or text i 0) (drop (i + 1) text)))
    ∙ h

pub text-done : (text old whole : List ℕ) (i : ℕ) → length text ≤ i
    → old ++ printed_text (drop i text) ≡ whole → old ≡ whole
text-done text old whole i le h =
    sym (append-nil old) ∙ ap (λ w. old ++ w) (sym (ap printed_text (drop_all i text le) ∙ text-nil)) ∙ h

pub behind-more : (parts : List (List ℕ)) (old mid new whole item text : List ℕ) (i : ℕ) → i < length parts
    → item ≡ get_or parts i item → text ≡ item
    → mid ≡ old ++ 47 ∷ [] → new ≡ mid ++ printed_text text
    → old ++ behind_parts (drop i parts) ≡ whole → new ++ behind_parts (drop (i + 1) parts) ≡ whole
behind-more parts old mid new whole item text i lt at same sign is h =
    let rest = behind_parts (drop (i + 1) parts) in
    let texts : printed_text text ≡ printed_text (get_or parts i item) = ap printed_text (same ∙ at) in
    ap (λ w. w ++ rest) (is ∙ ap (λ w. w ++ printed_text text) sign ∙ append_assoc old (47 ∷ []) (printed_text text)
    ∙ ap (λ w. old ++ 47 ∷ w) texts)
    ∙ append_assoc old (47 ∷ printed_text (get_or parts i item)) rest
    ∙ ap (λ w. old ++ w)
    (sym (ap behind_parts (drop_more parts i item lt) ∙ behind-cons (get_or parts i item) (drop (i + 1) parts)))
    ∙ h

pub behind-done : (parts : List (List ℕ)) (old whole : List ℕ) (i : ℕ) → length parts ≤ i
    → old ++ behind_parts (drop i parts) ≡ whole → old ≡ whole
behind-done parts old whole i le h =
    sym (append-nil old) ∙ ap (λ w. old ++ w) (sym (ap behind_parts (drop_all i parts le) ∙ behind-nil)) ∙ h

pub parts-nil : printed_parts [] ≡ []
unfolding printed_parts
parts-nil = refl

pub parts-split : (parts : List (List ℕ)) (first : List ℕ) (others : List (List ℕ)) (old mid new text : List ℕ)
    → parts ≡ first ∷ others → text ≡ first
    → mid ≡ old ++ printed_text text → new ≡ mid ++ behind_parts others → new ≡ old ++ printed_parts parts
parts-split parts first others old mid new text is same one two =
    two ∙ ap (λ w. w ++ behind_parts others) (one ∙ ap (λ t. old ++ printed_text t) same)
    ∙ append_assoc old (printed_text first) (behind_parts others)
    ∙ ap (λ w. old ++ w) (sym (ap printed_parts is ∙ parts-cons first others))
