-- What the index has of a key is what its entry says, and what it has of all keys is what the entries say.
use Rattle.std.proofs.Common.{◌≡◌, ℕ, ◌+◌, ◌-◌, List, filter, length, map, Bool, true, false, cond, Option, Some, None, refl, sym, ap, subst, rules, ◌∙◌}
use Rattle.std.specs.Prelude.{◌==◌, nat_lt, option_map}
use Rattle.std.specs.Option.{IsSome}
use Rattle.std.specs.List.{range_with_len}
use Rattle.std.specs.BTreeMap.{is_at}
use Rattle.std.specs.Map.{keys_of, lookup}
use Rattle.av_base.proofs.Keys.{same_key-is}
use Rattle.av_base.specs.Keys.{Key, key_cmp, same_key}
use Rattle.av_base.specs.Words.{how_many}
use Rattle.av_audit_index.proofs.UsedLaws.{uses-split}
use Rattle.av_audit_index.specs.Holders.{KeysRise, keys_at, pairs_at, seen_at, used_within, uses_at}
use Rattle.av_audit_index.specs.Holding.{Holding}
use Rattle.av_plain.specs.Ledger.{Cached as PlainCached, Entry as PlainEntry, names_frame, names_slot, same_slot}
use Rattle.av_plain.specs.Reclaim.{names_seen}
use Rattle.av_audit_pages.specs.Entries.{cached_of, entries_of, entry_of}
use Rattle.av_audit_pages.specs.Index.{KeepsKeys, KeepsOthers, Tells}
use Rattle.av_audit_pages.specs.Pages.{Content, IsIndexed, used_pages}
use Rattle.av_audit_pages.specs.SlotHolders.{area_at, slot_pairs_at, slot_seen_at}
use Rattle.av_audit_pages.specs.declared.entries.Cached.{Cached}
use Rattle.av_audit_pages.specs.declared.entries.Entry.{Entry}
use Rattle.av_audit_pages.specs.declared.index.Index.{Index}
use Rattle.av_audit_pages.specs.declared.slot_holders.SlotHolders.{SlotHolders}
use Rattle.av_audit_pages.proofs.KeyLaws.{keys-told, keys_told, passing, told-are, told-count}

-- ---- one change after another

-- all keys stay
pub keys-kept : (i j : Index) (k : Key) (o : Option PlainEntry) → KeepsKeys i j → Tells i k o → Tells j k o
keys-kept i j k o kept tells = record {
  frames = λ f. kept.frames f k ∙ tells.frames f;
  slots = λ s. kept.slots s k ∙ tells.slots s;
}

pub keys-twice : (i j k : Index) → KeepsKeys i j → KeepsKeys j k → KeepsKeys i k
keys-twice i j k one two = record {
  frames = λ f q. two.frames f q ∙ one.frames f q;
  slots = λ s q. two.slots s q ∙ one.slots s q;
}

-- a key has another entry, or none: the index tells it, and the others stay
pub tells-all : (i j : Index) (es fs : List (Key × Entry)) (key : Key) (o : Option Entry)
    → ((k : Key) → Tells i k (option_map entry_of (lookup (is_at (key_cmp k)) es)))
    → ((k : Key) → lookup (is_at (key_cmp k)) fs ≡ cond (same_key key k) o (lookup (is_at (key_cmp k)) es))
    → KeepsOthers i j key → Tells j key (option_map entry_of o)
    → (k : Key) → Tells j k (option_map entry_of (lookup (is_at (key_cmp k)) fs))
tells-all i j es fs key o tells looks others here k =
    subst (λ o. Tells j k (option_map entry_of o)) (sym (looks k)) (by (same_key key k) refl)
  where
    by : (b : Bool) → same_key key k ≡ b → Tells j k (option_map entry_of (cond b o (lookup (is_at (key_cmp k)) es)))
    by true same = subst (λ k. Tells j k (option_map entry_of o)) (same_key-is key k same) here
    by false other = record {
      frames = λ f. others.frames f k other ∙ (tells k).frames f;
      slots = λ s. others.slots s k other ∙ (tells k).slots s;
    }

-- what is there is some
pub is-there : {X : Type 0} (e : X) (o : Option X) → Some e ≡ o → IsSome o
is-there e o is = subst IsSome is (search rules)

-- what has gone is not there, whatever was put before
pub gone-again : {X : Type 0} (b : Bool) (x y : Option X) → cond b None (cond b x y) ≡ cond b None y
gone-again true x y = refl
gone-again false x y = refl

-- ---- all keys

-- of an index of these entries and pairs
module _ (i : Index) (es : List (Key × Entry)) (cs : List Cached) (is : IsIndexed i es cs) where
  -- its frames, whose keys rise
  module _ (holders : List (ℕ × Holding)) (same : holders ≡ i.frames) (rise : KeysRise holders) where
    pub frame-keys : (f : ℕ) → keys_at holders f ≡ keys_told (names_frame f) (names_seen f) es
    frame-keys f = told-are (names_frame f) (names_seen f) es (keys_at holders f) is.rising (rise f)
        (λ k. ap (λ h. seen_at h f k) same ∙ (is.tells k).frames f)

    pub frame-names : (f : ℕ) → length (keys_at holders f) ≡ how_many (λ (e : Key × PlainEntry). names_frame f e.1) (entries_of es)
    frame-names f = ap length (frame-keys f) ∙ told-count (names_frame f) (names_seen f) es

    pub frame-listed : (f : ℕ) → keys_of (keys_at holders f) ≡ keys_of (passing (names_frame f) (names_seen f) es)
    frame-listed f = ap keys_of (frame-keys f) ∙ keys-told (names_frame f) (names_seen f) es

    pub frame-uses : (f : ℕ) → uses_at holders f ≡ how_many (λ (e : Key × PlainEntry). names_frame f e.1) (entries_of es)
        + how_many (λ (c : PlainCached). f == c.frame) (map cached_of cs)
    frame-uses f = uses-split holders f
        ∙ (λ j. frame-names f j + (ap (λ h. pairs_at h f) same ∙ is.pairs.frames f) j)

  -- its slots, whose keys rise
  module _ (slots : SlotHolders) (same : slots ≡ i.slots) (a : ℕ) (rise : KeysRise (area_at slots a)) where
    pub slot-keys : (n : ℕ) → keys_at (area_at slots a) n ≡ keys_told (names_slot (record { area = a; page = n })) (λ e. false) es
    slot-keys n = told-are (names_slot (record { area = a; page = n })) (λ e. false) es (keys_at (area_at slots a) n) is.rising (rise n)
        (λ k. ap (λ (h : SlotHolders). slot_seen_at h (record { area = a; page = n }) k) same ∙ (is.tells k).slots (record { area = a; page = n }))

    pub slot-names : (n : ℕ) → length (keys_at (area_at slots a) n)
        ≡ how_many (λ (e : Key × PlainEntry). names_slot (record { area = a; page = n }) e.1) (entries_of es)
    slot-names n = ap length (slot-keys n) ∙ told-count (names_slot (record { area = a; page = n })) (λ e. false) es

    pub slot-listed : (n : ℕ) → keys_of (keys_at (area_at slots a) n) ≡ keys_of (passing (names_slot (record { area = a; page = n })) (λ e. false) es)
    slot-listed n = ap keys_of (slot-keys n) ∙ keys-told (names_slot (record { area = a; page = n })) (λ e. false) es

    pub slot-uses : (n : ℕ) → uses_at (area_at slots a) n
        ≡ how_many (λ (e : Key × PlainEntry). names_slot (record { area = a; page = n }) e.1) (entries_of es)
        + how_many (λ (c : PlainCached). same_slot (record { area = a; page = n }) c.slot) (map cached_of cs)
    slot-uses n = uses-split (area_at slots a) n
        ∙ (λ j. slot-names n j
        + (ap (λ (h : SlotHolders). slot_pairs_at h (record { area = a; page = n })) same ∙ is.pairs.slots (record { area = a; page = n })) j)

    -- the pages that are used, where the entries and pairs are seen as `now`
    pub slots-used : (now : Content) → record { entries = es; cache = cs } ≡ now → (pages : ℕ)
        → used_within (area_at slots a) 1 pages ≡ used_pages now a pages
    slots-used now seen pages =
        (λ j. filter (λ n. nat_lt 0 (slot-uses n j)) (range_with_len 1 (pages - 1))) ∙ ap (λ (p : Content). used_pages p a pages) seen
