-- What is found of a content, where the list has one.
use Rattle.std.proofs.Common.{◌≡◌, ℕ, List, Option, Some, None, Result, Ok, Err, refl, sym, ap, subst, ◌∙◌}
use Rattle.std.specs.Prelude.{IfSome, IfOk, nat_eq, option_map}
use Rattle.std.specs.List.{find}
use Rattle.std.proofs.lemmas.Option.{same_Some, none-some}
use Rattle.kdb_format.specs.Fields.{IsBytes}
use Rattle.tagged_data.specs.Answers.{Finds}
use Rattle.tagged_data.specs.Contents.{IsContent}
use Rattle.tagged_data.specs.Lists.{content}
use Rattle.tagged_data.specs.declared.items.TagItem.{TagItem}
use Rattle.tagged_data.specs.declared.faults.TagFault.{TagFault}

-- the bytes of what is there
pub bytes_there : (found : Option (List ℕ)) (here : List ℕ) → found ≡ Some here → IsBytes here → (bytes : List ℕ)
    → found ≡ Some bytes → IsBytes bytes
bytes_there found here e fits bytes e' = subst IsBytes (same_Some here bytes (sym e ∙ e')) fits

-- a value that was read is spelled so
pub value_found : {A X : Type 0} {read : List ℕ → Option A} {s : A → List ℕ} {F : A → Type 0} → IsContent read s F
    → (view : X → A)
    → (found : Option (List ℕ)) (bytes : List ℕ) → found ≡ Some bytes → IsBytes bytes → (result : Option X)
    → option_map view result ≡ read bytes
    → IfSome result (λ x. (found ≡ Some (s (view x))) × F (view x))
value_found content view found bytes there fits None e = tt
value_found content view found bytes there fits (Some x) e =
    (there ∙ ap Some (content.spelled bytes (view x) fits (sym e)), content.fits bytes (view x) fits (sym e))

-- a value that is spelled so is read
pub value_only : {A X : Type 0} {read : List ℕ → Option A} {s : A → List ℕ} {F : A → Type 0} → IsContent read s F
    → (view : X → A)
    → (found : Option (List ℕ)) (bytes : List ℕ) → found ≡ Some bytes → (result : Option X)
    → option_map view result ≡ read bytes
    → (x : A) → F x → found ≡ Some (s x) → option_map view result ≡ Some x
value_only {read = read} content view found bytes there result e x f is =
    e ∙ ap read (same_Some bytes _ (sym there ∙ is)) ∙ content.again x f

-- the same where memory may run out
pub list_found : {A : Type 0} {read : List ℕ → Option A} {s : A → List ℕ} {F : A → Type 0} → IsContent read s F
    → (found : Option (List ℕ)) (bytes : List ℕ) → found ≡ Some bytes → IsBytes bytes → (result : Result A TagFault)
    → Finds result (read bytes)
    → IfOk result (λ x. (found ≡ Some (s x)) × F x)
list_found content found bytes there fits (Ok x) e =
    (there ∙ ap Some (content.spelled bytes x fits e), content.fits bytes x fits e)
list_found content found bytes there fits (Err h) e = tt

pub list_only : {A : Type 0} {read : List ℕ → Option A} {s : A → List ℕ} {F : A → Type 0} → IsContent read s F
    → (found : Option (List ℕ)) (bytes : List ℕ) → found ≡ Some bytes → (result : Result A TagFault)
    → Finds result (read bytes)
    → (x : A) → F x → found ≡ Some (s x) → Finds result (Some x)
list_only {A = A} {read = read} content found bytes there result e x f is =
    subst (λ (o : Option A). Finds result o) (ap read (same_Some bytes _ (sym there ∙ is)) ∙ content.again x f) e

-- the content of an item that was found
pub content_there : (kind : ℕ) (items : List TagItem) (item : TagItem)
    → Some item ≡ find (λ i. nat_eq i.kind kind) items → content kind items ≡ Some item.bytes
unfolding content
content_there kind items item e = ap (option_map (λ (i : TagItem). i.bytes)) (sym e)

pub content_missing : (kind : ℕ) (items : List TagItem) → None ≡ find (λ i. nat_eq i.kind kind) items → (bytes : List ℕ)
    → content kind items ≡ Some bytes → ⊥
unfolding content
content_missing kind items e bytes is =
    let none : content kind items ≡ None = ap (option_map (λ (i : TagItem). i.bytes)) (sym e) in
    none-some bytes (sym none ∙ is)

-- a value as it is
pub same : {A : Type 0} (o : Option A) → option_map (λ x. x) o ≡ o
same None = refl
same (Some x) = refl

pub first_of_both : {A : Type 0} (P Q : A → Type 0) (o : Option A) → IfSome o (λ x. P x × Q x) → IfSome o P
first_of_both P Q None h = tt
first_of_both P Q (Some x) h = h.0

-- the same of a value that is not seen by a view
pub number_found : {A : Type 0} {read : List ℕ → Option A} {s : A → List ℕ} {F : A → Type 0} → IsContent read s F
    → (found : Option (List ℕ)) (bytes : List ℕ) → found ≡ Some bytes → IsBytes bytes → (result : Option A)
    → result ≡ read bytes
    → IfSome result (λ x. (found ≡ Some (s x)) × F x)
number_found content found bytes there fits result e =
    value_found content (λ x. x) found bytes there fits result (same result ∙ e)

pub number_only : {A : Type 0} {read : List ℕ → Option A} {s : A → List ℕ} {F : A → Type 0} → IsContent read s F
    → (found : Option (List ℕ)) (bytes : List ℕ) → found ≡ Some bytes → (result : Option A) → result ≡ read bytes
    → (x : A) → F x → found ≡ Some (s x) → result ≡ Some x
number_only content found bytes there result e x f is =
    sym (same result) ∙ value_only content (λ x. x) found bytes there result (same result ∙ e) x f is
