-- Chains rise: what stands behind one, what makes or leaves anon_vmas, what a fork leaves, and what the rows of `areas` show.
use Rattle.std.proofs.Common.{◌≡◌, ℕ, suc, ◌<◌, ◌≤◌, ◌==◌, Bool, true, false, cond, List, [], ◌∷◌, ◌++◌, map, Option, Some, None, refl, sym, subst, ◌∙◌, arith}
use Rattle.std.specs.List.{AllByRecursion}
use Rattle.std.specs.Option.{option_map_or}
use Rattle.std.specs.Prelude.{IfSome, IsSome}
use Rattle.av_base.specs.Words.{with_at}
use Rattle.av_trace.specs.Row.{AreRising}
use Rattle.av_trace.specs.declared.row.Row.{Row}
use Rattle.av_vma.specs.Fork.{areas_to_fork, own_to_fork}
use Rattle.av_vma.specs.Pages.{Pages}
use Rattle.av_vma.specs.declared.area.Area.{Area}
use Rattle.av_plain.specs.Areas.{AnonVma, Anons, ChainsRise, Rmap, chain_by, none_on, root_anon, root_of, with_root}
use Rattle.av_plain.specs.Fork.{AreForked, GoOver, GoesBy, with_child}
use Rattle.av_plain.specs.Report.{AreRowsOf, HasRisingChain, area_row}

-- ---- the last one

-- what stands before the last one rises
rising-front : (xs : List ℕ) (n : ℕ) → AreRising (xs ++ n ∷ []) → AreRising xs
rising-front [] n h = tt
rising-front (x ∷ []) n h = tt
rising-front (x ∷ y ∷ xs) n h = (h.0, rising-front (y ∷ xs) n h.1)

-- a greater one may stand in its place
rising-more : (xs : List ℕ) (n m : ℕ) → n ≤ m → AreRising (xs ++ n ∷ []) → AreRising (xs ++ m ∷ [])
rising-more [] n m le h = tt
rising-more (x ∷ []) n m le h = let less : x < n = h.0 in (omega (arith, less, le), tt)
rising-more (x ∷ y ∷ xs) n m le h = (h.0, rising-more (y ∷ xs) n m le h.1)

-- or behind it
rising-and : (xs : List ℕ) (n m : ℕ) → n < m → AreRising (xs ++ n ∷ []) → AreRising ((xs ++ n ∷ []) ++ m ∷ [])
rising-and [] n m less h = (less, tt)
rising-and (x ∷ []) n m less h = (h.0, (less, tt))
rising-and (x ∷ y ∷ xs) n m less h = (h.0, rising-and (y ∷ xs) n m less h.1)

-- ---- anon_vmas

-- the chain of an anon_vma that may be there rises, and its last is below n
abbrev Rises : ℕ → Option AnonVma → Type 0
Rises n o = IfSome o (λ (anon : AnonVma). AreRising (anon.chain ++ n ∷ []))

more : (n : ℕ) (o : Option AnonVma) → Rises n o → Rises (suc n) o
more n None h = tt
more n (Some anon) h = rising-more anon.chain n (suc n) (omega arith) h

-- so does that of an area
chain-below : (anons : Anons) (own : Option ℕ) → ChainsRise anons → AreRising (chain_by anons own ++ anons.next ∷ [])
chain-below anons None h = tt
chain-below anons (Some v) h = by (anons.anon v) (h v)
  where
    by : (o : Option AnonVma) → Rises anons.next o → AreRising (option_map_or (λ (anon : AnonVma). anon.chain) o [] ++ anons.next ∷ [])
    by None is = tt
    by (Some anon) is = is

pub chain_rises : (anons : Anons) (own : Option ℕ) → ChainsRise anons → AreRising (chain_by anons own)
chain_rises anons own h = rising-front (chain_by anons own) anons.next (chain-below anons own h)

-- a root may be made
pub rise-rooted : (b : Bool) (anons : Anons) → ChainsRise anons → ChainsRise (cond b (with_root anons) anons)
rise-rooted false anons h = h
rise-rooted true anons h = λ v. by v (v == anons.next)
  where
    by : (v : ℕ) (c : Bool) → Rises (suc anons.next) (cond c (Some (root_anon anons.next)) (anons.anon v))
    by v true = (omega arith, tt)
    by v false = more anons.next (anons.anon v) (h v)

-- some may go
pub rise-left : (anons left : Anons) → left.next ≡ anons.next → ((v : ℕ) → IsSome (left.anon v) → left.anon v ≡ anons.anon v)
    → ChainsRise anons → ChainsRise left
rise-left anons left next same h = λ v. by v (left.anon v) refl
  where
    by : (v : ℕ) (o : Option AnonVma) → left.anon v ≡ o → Rises left.next o
    by v None e = tt
    by v (Some anon) e = subst (λ n. Rises n (Some anon)) (sym next)
        (subst (Rises anons.next) (sym (same v (subst IsSome (sym e) refl)) ∙ e) (h v))

-- ---- a fork

rise-child : (own : ℕ) (reused : Option ℕ) (anons : Anons) → ChainsRise anons → ChainsRise (with_child own reused anons)
rise-child own None anons h = λ v. by v (v == anons.next)
  where
    by : (v : ℕ) (b : Bool) → Rises (suc anons.next)
        (cond b (Some (record { root = root_of anons own; parent = own; chain = chain_by anons (Some own) ++ anons.next ∷ [] })) (anons.anon v))
    by v true = rising-and (chain_by anons (Some own)) anons.next (suc anons.next) (omega arith) (chain-below anons (Some own) h)
    by v false = more anons.next (anons.anon v) (h v)
rise-child own (Some u) anons h = λ v. by v (v == u)
  where
    by : (v : ℕ) (b : Bool) → Rises anons.next (cond b (Some (record {
      root = root_of anons u;
      parent = option_map_or (λ (anon : AnonVma). anon.parent) (anons.anon u) u;
      chain = chain_by anons (Some own);
    })) (anons.anon v))
    by v true = chain-below anons (Some own) h
    by v false = h v

goes-rise : (own : Option ℕ) (q : ℕ) (area : Area) (r next : Rmap) → GoesBy own q area r next → ChainsRise r.anons → ChainsRise next.anons
goes-rise None q area r next goes h = subst (λ (x : Rmap). ChainsRise x.anons) (sym goes) h
goes-rise (Some own) q area r next goes h = subst (λ (x : Rmap). ChainsRise x.anons) (sym goes.2) (rise-child own goes.0 r.anons h)

over-rise : (q : ℕ) (areas : List Area) (r next : Rmap) → GoOver q areas r next → ChainsRise r.anons → ChainsRise next.anons
over-rise q [] r next goes h = subst (λ (x : Rmap). ChainsRise x.anons) (sym goes) h
over-rise q (area ∷ areas) r next (mid, first, later) h = over-rise q areas mid next later (goes-rise (own_to_fork area) q area r mid first h)

pub rise-forked : (p q : ℕ) (r next : Rmap) → AreForked p q r next → ChainsRise r.anons → ChainsRise next.anons
rise-forked p q r next forks h = over-rise q (areas_to_fork forks.0) (record r { areas = with_at q none_on r.areas }) next forks.3 h

-- ---- rows

-- the rows of areas have chains that rise
pub rows-rise : (anons : Anons) (areas : List Area) → ChainsRise anons → AllByRecursion HasRisingChain (map (area_row anons) areas)
rows-rise anons [] h = tt
rows-rise anons (a ∷ areas) h = (chain_rises anons a.anon h, rows-rise anons areas h)

-- so do those that a step shows
pub shown-rise : (anons : Anons) (on : Pages) (rows : List Row) → ChainsRise anons → AreRowsOf anons on rows → AllByRecursion HasRisingChain rows
shown-rise anons on rows h is = subst (AllByRecursion HasRisingChain) (sym is.1) (rows-rise anons is.0 h)
