-- What is said of an option, of shared frames and of the bytes of pages, where a ledger changes.
use Rattle.std.proofs.Common.{◌≡◌, ℕ, ◌<◌, ◌≤◌, Bool, true, false, ◌||◌, nat_lt, List, Option, Some, None, refl, sym, ap, subst, ◌∙◌, arith}
use Rattle.std.proofs.lemmas.Bool.Decides.{nat_tests}
use Rattle.std.proofs.lemmas.Bool.{false≢true}
use Rattle.std.specs.Prelude.{IfSome, slice_index}
use Rattle.av_base.specs.Keys.{Key}
use Rattle.av_base.specs.Page.{page_size}
use Rattle.av_base.specs.declared.slot.Slot.{Slot}
use Rattle.av_plain.specs.Device.{Device}
use Rattle.av_plain.specs.Event.{off_lists}
use Rattle.av_plain.specs.Fault.{is_named, asks_copy}
use Rattle.av_plain.specs.Ledger.{Entry, InFrame, InSlot, Ledger, Zero, entry, frame_at, is_merged, map_count, names_slot, slot_entries, slot_of}
use Rattle.av_plain.specs.Stands.{HoldsTold, IsClean, IsKept, IsKeptAt, View}
use Rattle.av_plain.specs.World.{Holds}
use Rattle.av_plain.specs.World.{Page}
use Rattle.av_plain.proofs.Covered.Swap.{still-in}
use Rattle.av_plain.proofs.Ledger.{how_many-found}
use Rattle.av_plain.proofs.Sound.Counts.{slot-itself}

-- ---- options

pub if-some : {A : Type 0} (o : Option A) (P : A → Type 0) → ((x : A) → o ≡ Some x → P x) → IfSome o P
if-some None P h = tt
if-some (Some x) P h = h x refl

pub at-some : {A : Type 0} (o : Option A) (P : A → Type 0) (x : A) → IfSome o P → o ≡ Some x → P x
at-some o P x h e = subst (λ o. IfSome o P) e h

pub some-is : {A : Type 0} (x y : A) → Some x ≡ Some y → x ≡ y
some-is x y e = cc

pub none-some : {A : Type 0} (x : A) → None ≡ Some x → ⊥
none-some x e = cc

pub differ : (b : Bool) → b ≡ true → b ≡ false → ⊥
differ b e f = cc

-- ---- shared frames

pub three : (a b c a' b' c' : Bool) → (a || b || c) ≡ false → (a ≡ false → a' ≡ false) → (b ≡ false → b' ≡ false) → (c ≡ false → c' ≡ false)
    → (a' || b' || c') ≡ false
three true b c a' b' c' e x y z = absurd (false≢true (sym e))
three false true c a' b' c' e x y z = absurd (false≢true (sym e))
three false false true a' b' c' e x y z = absurd (false≢true (sym e))
three false false false a' b' c' e x y z = λ i. x refl i || y refl i || z refl i

named-same : (l l' : Ledger) (o : Option Slot) → ((t : Slot) → o ≡ Some t → slot_entries l' t ≡ slot_entries l t) → is_named l' o ≡ is_named l o
named-same l l' None counts = refl
named-same l l' (Some t) counts = ap (nat_lt 0) (counts t refl)

-- a frame is shared as it was, where as many entries name it and its slot, and it is merged as it was
pub shared-same : (l l' : Ledger) (g : ℕ) → map_count l' g ≡ map_count l g → slot_of l' g ≡ slot_of l g
    → ((t : Slot) → slot_of l g ≡ Some t → slot_entries l' t ≡ slot_entries l t) → is_merged l' g ≡ is_merged l g
    → asks_copy l' g ≡ asks_copy l g
shared-same l l' g maps slot counts merged = (λ i. nat_lt 1 (maps i) || is_named l' (slot i) || merged i)
    ∙ ap (λ b. nat_lt 1 (map_count l g) || b || is_merged l g) (named-same l l' (slot_of l g) counts)

-- one that has no slot then is shared no more than it was
pub shared-less : (l l' : Ledger) (g : ℕ) → map_count l' g ≡ map_count l g → slot_of l' g ≡ None → is_merged l' g ≡ is_merged l g
    → asks_copy l g ≡ false → asks_copy l' g ≡ false
shared-less l l' g maps none merged h = (λ i. nat_lt 1 (maps i) || is_named l' (none i) || merged i)
    ∙ three (nat_lt 1 (map_count l g)) (is_named l (slot_of l g)) (is_merged l g) _ _ _ h (λ e. e) (λ e. refl) (λ e. e)

-- nor one that fewer entries name, and whose slot fewer do
pub shared-fewer : (l l' : Ledger) (g : ℕ) → map_count l' g ≤ map_count l g → slot_of l' g ≡ slot_of l g
    → ((t : Slot) → slot_of l g ≡ Some t → slot_entries l' t ≤ slot_entries l t) → is_merged l' g ≡ is_merged l g
    → asks_copy l g ≡ false → asks_copy l' g ≡ false
shared-fewer l l' g maps slot counts merged alone =
    (λ i. nat_lt 1 (map_count l' g) || is_named l' (slot i) || merged i)
    ∙ three (nat_lt 1 (map_count l g)) (is_named l (slot_of l g)) (is_merged l g) _ _ _ alone (less (map_count l g) (map_count l' g) maps)
    (named (slot_of l g) counts) (λ e. e)
  where
    less : (n n' : ℕ) → n' ≤ n → nat_lt 1 n ≡ false → nat_lt 1 n' ≡ false
    less n n' h e = grind (arith, nat_tests, h, e)

    none : (n n' : ℕ) → n' ≤ n → nat_lt 0 n ≡ false → nat_lt 0 n' ≡ false
    none n n' h e = grind (arith, nat_tests, h, e)

    named : (o : Option Slot) → ((t : Slot) → o ≡ Some t → slot_entries l' t ≤ slot_entries l t) → is_named l o ≡ false → is_named l' o ≡ false
    named None counts e = refl
    named (Some t) counts e = none (slot_entries l t) (slot_entries l' t) (counts t refl) e

-- nor where a frame leaves its list and is merged no longer
pub shared-off_lists : (l : Ledger) (f g : ℕ) → asks_copy l g ≡ false → asks_copy (off_lists f l) g ≡ false
shared-off_lists l f g alone = three (nat_lt 1 (map_count l g)) (is_named l (slot_of l g)) (is_merged l g) _ _ _ alone (λ e. e)
    (λ e. named-same l (off_lists f l) (slot_of l g) (λ t is. refl) ∙ e) (λ e. gone (is_merged (off_lists f l) g) refl e)
  where
    gone : (b : Bool) → is_merged (off_lists f l) g ≡ b → is_merged l g ≡ false → b ≡ false
    gone true is e = absurd (false≢true (sym e ∙ still-in g f l.merged is))
    gone false is e = refl

-- what it says of a frame that is not shared
pub few-of : (l : Ledger) (g : ℕ) → asks_copy l g ≡ false → map_count l g ≤ 1
few-of l g alone = by (map_count l g) (is_named l (slot_of l g)) (is_merged l g) alone
  where
    one : (n : ℕ) (b : Bool) → nat_lt 1 n ≡ b → b ≡ false → n ≤ 1
    one n b e h = let none = e ∙ h in grind (arith, nat_tests, none)

    first : (a b c : Bool) → (a || b || c) ≡ false → a ≡ false
    first true b c e = absurd (false≢true (sym e))
    first false b c e = refl

    by : (n : ℕ) (b c : Bool) → (nat_lt 1 n || b || c) ≡ false → n ≤ 1
    by n b c e = one n (nat_lt 1 n) refl (first (nat_lt 1 n) b c e)

pub unnamed-of : (l : Ledger) (g : ℕ) → asks_copy l g ≡ false → (t : Slot) → slot_of l g ≡ Some t → slot_entries l t ≡ 0
unnamed-of l g alone t is = zero (slot_entries l t) (second (nat_lt 1 (map_count l g)) (nat_lt 0 (slot_entries l t)) (is_merged l g)
    (ap (λ o. nat_lt 1 (map_count l g) || is_named l o || is_merged l g) (sym is) ∙ alone))
  where
    second : (a b c : Bool) → (a || b || c) ≡ false → b ≡ false
    second true b c e = absurd (false≢true (sym e))
    second false true c e = absurd (false≢true (sym e))
    second false false c e = refl

    zero : (n : ℕ) → nat_lt 0 n ≡ false → n ≡ 0
    zero n e = grind (arith, nat_tests, e)

pub own-of : (l : Ledger) (g : ℕ) → asks_copy l g ≡ false → is_merged l g ≡ false
own-of l g = third (nat_lt 1 (map_count l g)) (is_named l (slot_of l g)) (is_merged l g)
  where
    third : (a b c : Bool) → (a || b || c) ≡ false → c ≡ false
    third true b c e = absurd (false≢true (sym e))
    third false true c e = absurd (false≢true (sym e))
    third false false c e = e

-- ---- a slot that an entry names

pub named-slot : (l : Ledger) (k : Key) (t : Slot) → entry l k ≡ Some (InSlot t) → 0 < slot_entries l t
named-slot l k t is = how_many-found (names_slot t) k l.entries (InSlot t) is (slot-itself t)

-- ---- bytes

-- a page is kept where its entry keeps it, also where frames and devices become others
pub kept-moves : (v v' : View) (d d' : Device) (l l' : Ledger) (o : Option Entry) (p : Option Page) → v'.bytes ≡ v.bytes
    → ((t : Slot) → o ≡ Some (InSlot t) → frame_at l' t ≡ frame_at l t)
    → ((t : Slot) → o ≡ Some (InSlot t) → frame_at l t ≡ None → HoldsTold p d t → HoldsTold p d' t)
    → IsKept v d l o p → IsKept v' d' l' o p
kept-moves v v' d d' l l' None p bytes slots told h = h
kept-moves v v' d d' l l' (Some Zero) p bytes slots told h = h
kept-moves v v' d d' l l' (Some (InFrame g seen)) p bytes slots told h = subst (λ (b : ℕ → ℕ → ℕ). Holds p (b g)) (sym bytes) h
kept-moves v v' d d' l l' (Some (InSlot t)) p bytes slots told h = subst (IsKeptAt v' d' t p) (sym (slots t refl)) (by (frame_at l t) refl h)
  where
    by : (o : Option ℕ) → frame_at l t ≡ o → IsKeptAt v d t p o → IsKeptAt v' d' t p o
    by None e h = told t refl e h
    by (Some f) e h = subst (λ (b : ℕ → ℕ → ℕ). Holds p (b f)) (sym bytes) h

-- what holds one page holds another that claims no more
pub kept-claims : (v : View) (d : Device) (l : Ledger) (o : Option Entry) (x y : Option Page) → ((at : ℕ → ℕ) → Holds x at → Holds y at)
    → IsKept v d l o x → IsKept v d l o y
kept-claims v d l None x y less h = less (λ _. 0) h
kept-claims v d l (Some Zero) x y less h = less (λ _. 0) h
kept-claims v d l (Some (InFrame g seen)) x y less h = less (v.bytes g) h
kept-claims v d l (Some (InSlot t)) x y less h = by (frame_at l t) h
  where
    told : (o : Option (ℕ → ℕ → List ℕ)) → IfSome o (λ told. Holds x (slice_index (told t.area t.page)))
        → IfSome o (λ told. Holds y (slice_index (told t.area t.page)))
    told None h = tt
    told (Some pages) h = less (slice_index (pages t.area t.page)) h

    by : (o : Option ℕ) → IsKeptAt v d t x o → IsKeptAt v d t y o
    by None h = told d.pages h
    by (Some g) h = less (v.bytes g) h

-- the page of a slot that is cached where it was has its frame's bytes there
pub clean-same : (v v' : View) (d : Device) (t : Slot) (o o' : Option ℕ) → v'.bytes ≡ v.bytes → o' ≡ o → IsClean v d t o → IsClean v' d t o'
clean-same v v' d t o o' bytes same h = subst (IsClean v' d t) (sym same) (by o h)
  where
    by : (o : Option ℕ) → IsClean v d t o → IsClean v' d t o
    by None h = h
    by (Some f) h = subst (λ (b : ℕ → ℕ → ℕ). IfSome d.pages (λ told. (i : ℕ) → i < page_size → slice_index (told t.area t.page) i ≡ b f i))
        (sym bytes) h

-- what holds of some bytes holds of others that are the same in a page
pub claims : (q : Option Page) (a b : ℕ → ℕ) → ((i : ℕ) → i < page_size → b i ≡ a i) → Holds q a → Holds q b
claims None a b same h = h
claims (Some p) a b same h = λ i below. each i below (p.bytes i) (h i below)
  where
    each : (i : ℕ) → i < page_size → (o : Option ℕ) → IfSome o (λ c. a i ≡ c) → IfSome o (λ c. b i ≡ c)
    each i below None h = h
    each i below (Some c) h = same i below ∙ h
