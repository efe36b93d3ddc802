-- Lines that are written one behind another.
use Rattle.std.proofs.Common.{◌≡◌, ℕ, ◌+◌, ◌<◌, ◌≤◌, Bool, true, false, List, [], ◌++◌}
use Rattle.std.proofs.Common.{length, drop, get_or, refl, sym, ap, ◌∙◌, append_assoc}
use Rattle.std.specs.Prelude.{codes, if◌then◌else◌, Some, None}
use Rattle.std.proofs.lemmas.List.{append-nil, drop_all, drop_more}
use Rattle.kdb_base.specs.declared.versions.Activation.{Activation}
use Rattle.kdb_base.specs.declared.versions.Master.{Master}
use Rattle.master_keys.specs.Versions.{last_version}
use Rattle.princ_keys.specs.declared.keys.KeyItem.{KeyItem}
use Rattle.serving_versions.specs.Versions.{cause_from}
use Rattle.serving_versions.specs.declared.serving.Cause.TheVariants.{Protects, Active, Newest, Pending}
use Rattle.tab_reports.specs.Causes.{word_of}
use Rattle.tab_reports.specs.Keys.{key_line, key_lines}
use Rattle.tab_reports.specs.Masters.{cause_word}

-- one more piece was written
pub one_on : (old new piece before after whole : List ℕ) → new ≡ old ++ piece → before ≡ piece ++ after
    → old ++ before ≡ whole → new ++ after ≡ whole
one_on old new piece before after whole more is so =
    ap (λ (xs : List ℕ). xs ++ after) more ∙ append_assoc old piece after
    ∙ ap (λ (xs : List ℕ). old ++ xs) (sym is) ∙ so

-- nothing is left
pub none_on : (old rest whole : List ℕ) → rest ≡ [] → old ++ rest ≡ whole → old ≡ whole
none_on old rest whole none so = sym (append-nil old) ∙ ap (λ (xs : List ℕ). old ++ xs) (sym none) ∙ so

pub key_more : (name : List ℕ) (keys : List KeyItem) (i : ℕ) (k : KeyItem) → i < length keys → k ≡ get_or keys i k
    → key_lines name i (drop i keys) ≡ key_line name i k ++ key_lines name (i + 1) (drop (i + 1) keys)
unfolding key_lines
key_more name keys i k lt is =
    ap (key_lines name i) (drop_more keys i k lt)
    ∙ ap (λ (x : KeyItem). key_line name i x ++ key_lines name (i + 1) (drop (i + 1) keys)) (sym is)

pub keys_end : (name : List ℕ) (keys : List KeyItem) (i : ℕ) → length keys ≤ i → key_lines name i (drop i keys) ≡ []
unfolding key_lines
keys_end name keys i le = ap (key_lines name i) (drop_all i keys le)

cause_is : (a b c d : Bool) (count : ℕ)
    → (if a then codes "protects" else if b then codes "active" else if c then codes "newest" else if d
    then codes "pending" else codes "none")
    ≡ word_of (if a then Some (Protects count) else if b then Some Active else if c then Some Newest else if d
    then Some Pending else None)
cause_is true b c d count = refl
cause_is false true c d count = refl
cause_is false false true d count = refl
cause_is false false false true count = refl
cause_is false false false false count = refl

pub causes_same : (count : ℕ) (masters : List Master) (activations : List Activation) (secs version : ℕ)
    → cause_word count (last_version masters) activations secs version
    ≡ word_of (cause_from count masters activations secs version)
unfolding cause_word cause_from
causes_same count masters activations secs version = cause_is _ _ _ _ count
