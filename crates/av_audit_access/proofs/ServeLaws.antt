-- A page is served, part by part.
use Rattle.std.proofs.Common.{◌≡◌, ◌⊎◌, inl, inr, ℕ, Bool, true, false, Option, Some, None, List, [], ◌++◌, refl, sym, ap, subst, ◌∙◌, append_assoc}
use Rattle.av_base.specs.Keys.{Key}
use Rattle.av_base.specs.Page.{address_of}
use Rattle.av_trace.specs.declared.note.Note.{Note}
use Rattle.av_trace.specs.declared.note.Note.TheVariants.{New, Copied}
use Rattle.av_trace.specs.declared.reply.OutOf.{OutOf}
use Rattle.av_plain.specs.Event.{after_notes}
use Rattle.av_plain.specs.Fault.{ComesIn, FindsNone, IsMade, Need, Ready, ZeroPage, NewPage, CopyOnWrite, SwapIn, MapCached, Serves, Sparing, Stop, Denied, Starved, Lost, drop_at, need, was_slot}
use Rattle.av_plain.specs.Ledger.{Ledger, Setting, entry}
use Rattle.av_plain.specs.Pass.{Seeks}
use Rattle.av_plain.proofs.Access.{after_notes-append}
use Rattle.av_audit_laws.proofs.ToldPage.{comes-goes-on, comes-told, made-told}
use Rattle.av_audit_laws.proofs.ToldPass.{taken-goes-on}
use Rattle.av_audit_judge.specs.Finds.{Reads, Stand}
use Rattle.av_audit_judge.specs.Stage.{Meets}
use Rattle.av_audit_judge.proofs.StageLaws.{InStages, meets-halt, meets-neither, meets-then}
use Rattle.av_audit_access.specs.Come.{IsKept, IsKeptBy}
use Rattle.av_audit_access.specs.Touch.{IsMadeReady, IsUnready, IsUnserved}
use Rattle.av_audit_access.proofs.ComeLaws.{Comes}
use Rattle.av_audit_access.proofs.TakeLaws.{Finds, Makes}

-- what the page needs
abbrev pub need_at : Bool → Ledger → Key → Need
need_at write l k = need write l (entry l k)

-- ---- a page that is here is made ready

abbrev pub MakesReady : Setting → Sparing → Ledger → Bool → Bool → Key → Unit {0} → List Note → Type 0
MakesReady m sp l write came k u = IsMadeReady m sp l write came k

abbrev IsDrop : Setting → Ledger → Bool → Bool → Key → Unit {0} → List Note → Unit {0} → List Note → Type 0
IsDrop m l write came k u a v b = b ≡ drop_at m write came (after_notes l a) k

abbrev Nowhere : Unit {0} → List Note → Stop → List Note → Type 0
Nowhere u a stop b = ⊥

never : false ≡ true → ⊥
never e = cc

made-apart : (m : Setting) (sp : Sparing) (l : Ledger) (k : Key) (n : Need) (a b u : List Note) (out : OutOf)
    → IsMade m sp l k n a → FindsNone m sp l n b out → a ++ u ≡ b → ⊥
made-apart m sp l k Ready a b u out h g e = never g.wants
made-apart m sp l k ZeroPage a b u out h g e = never g.wants
made-apart m sp l k NewPage a b u out h g e = taken-goes-on m (sp l None) l a b u (New k.0 (address_of k.1)) h g.seeks e
made-apart m sp l k (CopyOnWrite f) a b u out h g e =
    taken-goes-on m (sp l (Some f)) l a b u (Copied k.0 (address_of k.1)) h g.seeks e
made-apart m sp l k (SwapIn s) a b u out h g e = h
made-apart m sp l k (MapCached f) a b u out h g e = h

module _ (m : Setting) (sp : Sparing) (l : Ledger) (write came : Bool) (k : Key) where
  ready-stages : InStages (MakesReady m sp l write came k) (IsUnready m sp l write k) (Makes m sp l k (need_at write l k))
      (IsUnready m sp l write k) (IsDrop m l write came k) Nowhere
  ready-stages = record {
    split = λ u ns h. (tt, h.0, drop_at m write came (after_notes l h.0) k, h.1, refl, h.2);
    join = λ u v a b h g. (a, h, ap (λ r. a ++ r) g);
    stop = λ stop ns h. inl h;
    halt = λ stop ns h. h;
    end = λ u stop a b h g. absurd g;
    told = λ u v a b x y h g e. (refl, made-told m sp l k (need_at write l k) a b x y h g e);
    apart = λ u stop a b v h g e. by stop a b v h g e;
  }
    where
      by : (stop : Stop) (a b v : List Note) → IsMade m sp l k (need_at write l k) a → IsUnready m sp l write k stop b → a ++ v ≡ b → ⊥
      by Denied a b v h g e = g
      by (Starved out) a b v h g e = made-apart m sp l k (need_at write l k) a b v out h g e
      by Lost a b v h g e = g

  -- nothing is made, and no want of a frame is told
  pub ready-none : (l1 l' : Ledger) (bytes mid rest : List ℕ)
      → Meets (Makes m sp l k (need_at write l k)) (Finds m sp l (need_at write l k)) l bytes None l1 mid
      → Meets (MakesReady m sp l write came k) (IsUnready m sp l write k) l bytes None l' rest
  ready-none l1 l' bytes mid rest none =
      meets-neither (MakesReady m sp l write came k) (IsUnready m sp l write k) (Makes m sp l k (need_at write l k))
      (IsUnready m sp l write k) (IsDrop m l write came k) Nowhere ready-stages l l1 l' bytes mid rest
      (record { goes = none.goes; stops = by })
    where
      by : (stop : Stop) (notes : List Note) → IsUnready m sp l write k stop notes → Stand bytes notes [] → ⊥
      by Denied notes h st = h
      by (Starved out) notes h st = none.stops out notes h st
      by Lost notes h st = h

  pub ready-starved : (l' : Ledger) (bytes mid rest : List ℕ) (out : OutOf)
      → Meets (Makes m sp l k (need_at write l k)) (Finds m sp l (need_at write l k)) l bytes (Some (inr out)) l' mid
      → Meets (MakesReady m sp l write came k) (IsUnready m sp l write k) l bytes (Some (inr (Starved out))) l' rest
  ready-starved l' bytes mid rest out h = record { notes = h.notes; lawful = h.lawful; stand = h.stand; after = h.after }

  pub ready-made : (l1 l' : Ledger) (bytes mid rest : List ℕ)
      → Meets (Makes m sp l k (need_at write l k)) (Finds m sp l (need_at write l k)) l bytes (Some (inl tt)) l1 mid
      → Reads (λ ns. ns ≡ drop_at m write came l1 k) l1 mid true l' rest
      → Meets (MakesReady m sp l write came k) (IsUnready m sp l write k) l bytes (Some (inl tt)) l' rest
  ready-made l1 l' bytes mid rest first drop =
      meets-then (MakesReady m sp l write came k) (IsUnready m sp l write k) (Makes m sp l k (need_at write l k))
      (IsUnready m sp l write k) (IsDrop m l write came k) Nowhere ready-stages l l1 l' bytes mid rest tt (Some (inl tt)) first
      (λ a h e. subst (λ n. Reads (λ ns. ns ≡ drop_at m write came n k) l1 mid true l' rest) e drop)

  pub ready-undropped : (l1 l2 l' : Ledger) (bytes mid more rest : List ℕ)
      → Meets (Makes m sp l k (need_at write l k)) (Finds m sp l (need_at write l k)) l bytes (Some (inl tt)) l1 mid
      → Reads (λ ns. ns ≡ drop_at m write came l1 k) l1 mid false l2 more
      → Meets (MakesReady m sp l write came k) (IsUnready m sp l write k) l bytes None l' rest
  ready-undropped l1 l2 l' bytes mid more rest first none =
      meets-then (MakesReady m sp l write came k) (IsUnready m sp l write k) (Makes m sp l k (need_at write l k))
      (IsUnready m sp l write k) (IsDrop m l write came k) Nowhere ready-stages l l1 l' bytes mid rest tt None first
      (λ a h e. record {
        goes = λ u notes other g st. none notes other (g ∙ ap (λ n. drop_at m write came n k) (sym e)) st;
        stops = λ stop notes g st. g;
      })

-- ---- a page comes in, and is made ready

abbrev pub Serve : Setting → Sparing → Ledger → Bool → Key → Unit {0} → List Note → Type 0
Serve m sp l write k u = Serves m sp l write k

-- no frame is found for a page: its page is on the device alone, or it is here
kept-or-here : (m : Setting) (sp : Sparing) (l : Ledger) (k : Key) (n : Need) (sought : List Note) (out : OutOf)
    → FindsNone m sp l n sought out → IsKept m sp l n (Starved out) sought ⊎ ComesIn m sp l k n []
kept-or-here m sp l k (SwapIn s) sought out h = inl (s, refl, (h.seeks, h.none, h.numbers))
kept-or-here m sp l k (MapCached f) sought out h = absurd (never h.wants)
kept-or-here m sp l k Ready sought out h = inr refl
kept-or-here m sp l k ZeroPage sought out h = inr refl
kept-or-here m sp l k NewPage sought out h = inr refl
kept-or-here m sp l k (CopyOnWrite f) sought out h = inr refl

kept-seeks : (m : Setting) (sp : Sparing) (l : Ledger) (stop : Stop) (notes : List Note) → IsKeptBy m sp l stop notes
    → Seeks m (sp l None) l notes
kept-seeks m sp l Denied notes h = absurd h
kept-seeks m sp l (Starved out) notes h = h.0
kept-seeks m sp l Lost notes h = h.0

module _ (m : Setting) (sp : Sparing) (l : Ledger) (write : Bool) (k : Key) where
  abbrev came : Bool
  came = was_slot (need_at write l k)

  abbrev Behind : Unit {0} → List Note → Unit {0} → List Note → Type 0
  Behind u a = MakesReady m sp (after_notes l a) write came k

  abbrev Unready : Unit {0} → List Note → Stop → List Note → Type 0
  Unready u a = IsUnready m sp (after_notes l a) write k

  serve-stages : InStages (Serve m sp l write k) (IsUnserved m sp l write k) (Comes m sp l k (need_at write l k))
      (IsKept m sp l (need_at write l k)) Behind Unready
  serve-stages = record {
    split = λ u ns h. (
      tt,
      h.coming,
      h.making ++ drop_at m write came (after_notes l (h.coming ++ h.making)) k,
      h.comes_in,
      (h.making, h.made, ap (λ n. h.making ++ drop_at m write came n k) (after_notes-append l h.coming h.making)),
      h.whole ∙ append_assoc h.coming h.making (drop_at m write came (after_notes l (h.coming ++ h.making)) k),
    );
    join = λ u v a b h g. record {
      coming = a;
      making = g.0;
      whole = ap (λ r. a ++ r) g.2 ∙ sym (append_assoc a g.0 (drop_at m write came (after_notes (after_notes l a) g.0) k))
          ∙ ap (λ n. (a ++ g.0) ++ drop_at m write came n k) (sym (after_notes-append l a g.0));
      comes_in = h;
      made = g.1;
    };
    stop = stopped;
    halt = halted;
    end = λ u stop a b h g. ended stop a b h g;
    told = λ u v a b x y h g e. (refl, comes-told m sp l k (need_at write l k) a b x y h g e);
    apart = λ u stop a b v h g e.
        comes-goes-on m sp l k g.0 a b v (subst (λ n. ComesIn m sp l k n a) g.1 h) (kept-seeks m sp l stop b g.2) e;
  }
    where
      starved : (ns sought : List Note) (out : OutOf) → ns ≡ sought → FindsNone m sp l (need_at write l k) sought out
          → IsKept m sp l (need_at write l k) (Starved out) sought ⊎ ComesIn m sp l k (need_at write l k) []
          → IsKept m sp l (need_at write l k) (Starved out) ns
          ⊎ ((u : Unit {0}) × (a : List Note) × (b : List Note) × ComesIn m sp l k (need_at write l k) a
          × IsUnready m sp (after_notes l a) write k (Starved out) b × (ns ≡ a ++ b))
      starved ns sought out same finds (inl kept) = inl (subst (IsKept m sp l (need_at write l k) (Starved out)) (sym same) kept)
      starved ns sought out same finds (inr here) = inr (tt, [], sought, here, finds, same)

      stopped : (stop : Stop) (ns : List Note) → IsUnserved m sp l write k stop ns
          → IsKept m sp l (need_at write l k) stop ns
          ⊎ ((u : Unit {0}) × (a : List Note) × (b : List Note) × ComesIn m sp l k (need_at write l k) a
          × IsUnready m sp (after_notes l a) write k stop b × (ns ≡ a ++ b))
      stopped Denied ns h = absurd h
      stopped (Starved out) ns h = by h.before
        where
          by : (h.coming ≡ []) ⊎ ComesIn m sp l k (need_at write l k) h.coming
              → IsKept m sp l (need_at write l k) (Starved out) ns
              ⊎ ((u : Unit {0}) × (a : List Note) × (b : List Note) × ComesIn m sp l k (need_at write l k) a
              × IsUnready m sp (after_notes l a) write k (Starved out) b × (ns ≡ a ++ b))
          by (inl e) =
              let finds = subst (λ c. FindsNone m sp (after_notes l c) (need_at write (after_notes l c) k) h.sought out) e h.finds in
              starved ns h.sought out (h.whole ∙ ap (λ c. c ++ h.sought) e) finds
              (kept-or-here m sp l k (need_at write l k) h.sought out finds)
          by (inr c) = inr (tt, h.coming, h.sought, c, h.finds, h.whole)
      stopped Lost ns h = inl (h.slot, h.absent, (h.seeks, h.frame))

      halted : (stop : Stop) (ns : List Note) → IsKept m sp l (need_at write l k) stop ns → IsUnserved m sp l write k stop ns
      halted Denied ns h = h.2
      halted (Starved out) ns h = record {
        coming = [];
        sought = ns;
        whole = refl;
        before = inl refl;
        finds = subst (λ n. FindsNone m sp l n ns out) (sym h.1)
            (record { wants = refl; seeks = h.2.0; none = h.2.1; numbers = h.2.2 });
      }
      halted Lost ns h = record { slot = h.0; absent = h.1; seeks = h.2.0; frame = h.2.1 }

      ended : (stop : Stop) (a b : List Note) → ComesIn m sp l k (need_at write l k) a
          → IsUnready m sp (after_notes l a) write k stop b → IsUnserved m sp l write k stop (a ++ b)
      ended Denied a b h g = g
      ended (Starved out) a b h g = record { coming = a; sought = b; whole = refl; before = inr h; finds = g }
      ended Lost a b h g = absurd g

  -- it neither comes in nor is kept out
  pub serve-none : (l1 l' : Ledger) (bytes mid rest : List ℕ)
      → Meets (Comes m sp l k (need_at write l k)) (IsKept m sp l (need_at write l k)) l bytes None l1 mid
      → Meets (Serve m sp l write k) (IsUnserved m sp l write k) l bytes None l' rest
  serve-none l1 l' bytes mid rest none =
      meets-neither (Serve m sp l write k) (IsUnserved m sp l write k) (Comes m sp l k (need_at write l k))
      (IsKept m sp l (need_at write l k)) Behind Unready serve-stages l l1 l' bytes mid rest none

  -- it is kept out
  pub serve-kept : (l' : Ledger) (bytes mid rest : List ℕ) (stop : Stop)
      → Meets (Comes m sp l k (need_at write l k)) (IsKept m sp l (need_at write l k)) l bytes (Some (inr stop)) l' mid
      → Meets (Serve m sp l write k) (IsUnserved m sp l write k) l bytes (Some (inr stop)) l' rest
  serve-kept l' bytes mid rest stop h =
      meets-halt (Serve m sp l write k) (IsUnserved m sp l write k) (Comes m sp l k (need_at write l k))
      (IsKept m sp l (need_at write l k)) Behind Unready serve-stages l l' bytes mid rest stop h

  -- it comes in, and what is read behind that makes it ready
  pub serve-here : (l1 l' : Ledger) (bytes mid rest : List ℕ) (found : Option (Unit {0} ⊎ Stop))
      → Meets (Comes m sp l k (need_at write l k)) (IsKept m sp l (need_at write l k)) l bytes (Some (inl tt)) l1 mid
      → Meets (MakesReady m sp l1 write came k) (IsUnready m sp l1 write k) l1 mid found l' rest
      → Meets (Serve m sp l write k) (IsUnserved m sp l write k) l bytes found l' rest
  serve-here l1 l' bytes mid rest found first second =
      meets-then (Serve m sp l write k) (IsUnserved m sp l write k) (Comes m sp l k (need_at write l k))
      (IsKept m sp l (need_at write l k)) Behind Unready serve-stages l l1 l' bytes mid rest tt found first
      (λ a h e. subst (λ n. Meets (MakesReady m sp n write came k) (IsUnready m sp n write k) l1 mid found l' rest) e second)

-- ---- what is met of one need is met of the same

pub made-is : (m : Setting) (sp : Sparing) (l l' : Ledger) (k : Key) (n n' : Need) (bytes rest : List ℕ) (found found' : Option (Unit {0} ⊎ OutOf))
    → n ≡ n' → found ≡ found' → Meets (Makes m sp l k n) (Finds m sp l n) l bytes found l' rest
    → Meets (Makes m sp l k n') (Finds m sp l n') l bytes found' l' rest
made-is m sp l l' k n n' bytes rest found found' same e h =
    subst (λ o. Meets (Makes m sp l k n') (Finds m sp l n') l bytes o l' rest) e
    (subst (λ n. Meets (Makes m sp l k n) (Finds m sp l n) l bytes found l' rest) same h)

pub come-is : (m : Setting) (sp : Sparing) (l l' : Ledger) (k : Key) (n n' : Need) (bytes rest : List ℕ) (found found' : Option (Unit {0} ⊎ Stop))
    → n ≡ n' → found ≡ found' → Meets (Comes m sp l k n) (IsKept m sp l n) l bytes found l' rest
    → Meets (Comes m sp l k n') (IsKept m sp l n') l bytes found' l' rest
come-is m sp l l' k n n' bytes rest found found' same e h =
    subst (λ o. Meets (Comes m sp l k n') (IsKept m sp l n') l bytes o l' rest) e
    (subst (λ n. Meets (Comes m sp l k n) (IsKept m sp l n) l bytes found l' rest) same h)
