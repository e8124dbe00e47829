-- Cells in use and free ones: what a write of a cell makes of the nodes, and of the free cells.
use Rattle.std.proofs.Common.{◌≡◌, ℕ, zero, suc, ◌<◌, Bool, true, false, cond, eqb, List, [], ◌∷◌, ◌++◌, length, map, slice_get, slice_set, Option, Some, None, IsSome, is_some, option_map, refl, sym, ap, ◌∙◌, subst, arith}
use Rattle.std.proofs.Math.Path.{fun_ext}
use Rattle.std.proofs.lemmas.Bool.{both_ways, eqb-true, eq-eqb}
use Rattle.std.specs.List.{AllByRecursion}
use Rattle.av_base.specs.Words.{with_at}
use Rattle.av_arena.specs.Arena.{store_of}
use Rattle.av_arena.specs.Cell.{AreFree, AreListed, cell_used, first, is_free, next_in, node_in, used_of}
use Rattle.av_arena.specs.declared.cell.Cell.{Cell}
use Rattle.av_arena.specs.declared.link.Stored.{Stored}

module _ {T S : Type 0} where
  used_node : (c : Cell T S) (b : Bool) → b ≡ false → option_map node_in (used_of b c) ≡ Some (node_in c)
  used_node c true e = absurd (both_ways true e refl)
  used_node c false e = refl

  free_node : (c : Cell T S) (b : Bool) → b ≡ true → option_map node_in (used_of b c) ≡ None
  free_node c true e = refl
  free_node c false e = absurd (both_ways false refl e)

  is_used : (c : Cell T S) (b : Bool) → IsSome (option_map node_in (used_of b c)) → b ≡ false
  is_used c true h = absurd (both_ways false refl h)
  is_used c false h = refl

  -- the cell under a number that is in use
  pub record IsUsed (cells : List (Cell T S)) (n : ℕ) : Type 0 where
    pub cell : Cell T S
    pub at : slice_get cells n ≡ Some cell
    pub within : n < length cells
    pub used : is_free cell.left ≡ false
    pub node : store_of (map cell_used cells) n ≡ Some (node_in cell)

  pub used_at : (cells : List (Cell T S)) (n : ℕ) → IsSome (store_of (map cell_used cells) n) → IsUsed cells n
  used_at [] n h = absurd (both_ways false refl h)
  used_at (x ∷ xs) zero h =
      let u = is_used x (is_free x.left) h in
      record { cell = x; at = refl; within = omega arith; used = u; node = used_node x (is_free x.left) u }
  used_at (x ∷ xs) (suc n) h =
      let p = used_at xs n h in let w = p.within in record { cell = p.cell; at = p.at; within = omega arith; used = p.used; node = p.node }

  -- the same, of a number that stands for a view
  pub used_in : (cells : List (Cell T S)) (old : List (Option (Cell T S))) (n : ℕ) → map cell_used cells ≡ old → IsSome (store_of old n) →
      IsUsed cells n
  used_in cells old n e h = used_at cells n (subst (λ v. IsSome (store_of v n)) (sym e) h)

  node_as : (cells : List (Cell T S)) (n : ℕ) (c : Cell T S) → slice_get cells n ≡ Some c →
      store_of (map cell_used cells) n ≡ option_map node_in (cell_used c)
  node_as [] n c g = absurd (both_ways false refl (ap is_some g))
  node_as (x ∷ xs) zero c g = let q : Some x ≡ Some c = g in let s : x ≡ c = cc in ap (λ y. option_map node_in (cell_used y)) s
  node_as (x ∷ xs) (suc n) c g = node_as xs n c g

  within : (cells : List (Cell T S)) (n : ℕ) (c : Cell T S) → slice_get cells n ≡ Some c → n < length cells
  within [] n c g = absurd (both_ways false refl (ap is_some g))
  within (x ∷ xs) zero c g = omega arith
  within (x ∷ xs) (suc n) c g = let w = within xs n c g in omega arith

  get_same : (cells : List (Cell T S)) (n : ℕ) (c : Cell T S) → n < length cells → slice_get (slice_set cells n c) n ≡ Some c
  get_same [] n c h = absurd (omega arith)
  get_same (x ∷ xs) zero c h = refl
  get_same (x ∷ xs) (suc n) c h = get_same xs n c (omega arith)

  get_other : (cells : List (Cell T S)) (n j : ℕ) (c : Cell T S) → (j ≡ n → ⊥) → slice_get (slice_set cells n c) j ≡ slice_get cells j
  get_other [] n j c d = refl
  get_other (x ∷ xs) zero zero c d = absurd (d refl)
  get_other (x ∷ xs) zero (suc j) c d = refl
  get_other (x ∷ xs) (suc n) zero c d = refl
  get_other (x ∷ xs) (suc n) (suc j) c d = get_other xs n j c (λ e. d (ap suc e))

  set_other : (cells : List (Cell T S)) (n j : ℕ) (c : Cell T S) → (j ≡ n → ⊥) →
      store_of (map cell_used (slice_set cells n c)) j ≡ store_of (map cell_used cells) j
  set_other [] n j c d = refl
  set_other (x ∷ xs) zero zero c d = absurd (d refl)
  set_other (x ∷ xs) zero (suc j) c d = refl
  set_other (x ∷ xs) (suc n) zero c d = refl
  set_other (x ∷ xs) (suc n) (suc j) c d = set_other xs n j c (λ e. d (ap suc e))

  push_same : (cells : List (Cell T S)) (c : Cell T S) →
      store_of (map cell_used (cells ++ c ∷ [])) (length cells) ≡ option_map node_in (cell_used c)
  push_same [] c = refl
  push_same (x ∷ xs) c = push_same xs c

  push_other : (cells : List (Cell T S)) (j : ℕ) (c : Cell T S) → (j ≡ length cells → ⊥) →
      store_of (map cell_used (cells ++ c ∷ [])) j ≡ store_of (map cell_used cells) j
  push_other [] zero c d = absurd (d refl)
  push_other [] (suc j) c d = refl
  push_other (x ∷ xs) zero c d = refl
  push_other (x ∷ xs) (suc j) c d = push_other xs j c (λ e. d (ap suc e))

  -- two stores that part at one number alone
  stores_at : (s t : ℕ → Option (Stored T S)) (n : ℕ) (o : Option (Stored T S)) → t n ≡ o → ((j : ℕ) → (j ≡ n → ⊥) → t j ≡ s j) → t ≡ with_at n o s
  stores_at s t n o e d = fun_ext (λ j. elim (eqb j n) as (λ b. eqb j n ≡ b → t j ≡ cond b o (s j)) [
    | true ↦ λ q. ap t (eqb-true j n q) ∙ e
    | false ↦ λ q. d j (λ p. both_ways (eqb j n) q (eq-eqb j n p))
  ] refl)

  -- a cell is written: its number stands for what it holds then
  put_at : (cells : List (Cell T S)) (old : List (Option (Cell T S))) (n : ℕ) (c : Cell T S) (o : Option (Stored T S)) → map cell_used cells ≡ old →
      n < length cells → option_map node_in (cell_used c) ≡ o → store_of (map cell_used (slice_set cells n c)) ≡ with_at n o (store_of old)
  put_at cells old n c o is h e =
      stores_at (store_of (map cell_used cells)) (store_of (map cell_used (slice_set cells n c))) n o
      (node_as (slice_set cells n c) n c (get_same cells n c h) ∙ e) (λ j d. set_other cells n j c d)
      ∙ ap (λ v. with_at n o (store_of v)) is

  pub put_node : (cells : List (Cell T S)) (old : List (Option (Cell T S))) (n : ℕ) (c : Cell T S) (o : Option (Stored T S)) →
      map cell_used cells ≡ old → n < length cells → is_free c.left ≡ false → Some (node_in c) ≡ o →
      store_of (map cell_used (slice_set cells n c)) ≡ with_at n o (store_of old)
  put_node cells old n c o is h f e = put_at cells old n c o is h (used_node c (is_free c.left) f ∙ e)

  pub put_none : (cells : List (Cell T S)) (old : List (Option (Cell T S))) (n : ℕ) (c : Cell T S) →
      map cell_used cells ≡ old → n < length cells → is_free c.left ≡ true →
      store_of (map cell_used (slice_set cells n c)) ≡ with_at n None (store_of old)
  put_none cells old n c is h f = put_at cells old n c None is h (free_node c (is_free c.left) f)

  pub pushed : (cells new : List (Cell T S)) (old : List (Option (Cell T S))) (n : ℕ) (c : Cell T S) (v : Stored T S) →
      map cell_used cells ≡ old → new ≡ cells ++ c ∷ [] → n ≡ length cells → is_free c.left ≡ false → node_in c ≡ v →
      store_of (map cell_used new) ≡ with_at n (Some v) (store_of old)
  pushed cells new old n c v is e k f w =
      ap (λ xs. store_of (map cell_used xs)) e
      ∙ (stores_at (store_of (map cell_used cells)) (store_of (map cell_used (cells ++ c ∷ []))) (length cells) (Some v)
      (push_same cells c ∙ (used_node c (is_free c.left) f ∙ ap Some w)) (λ j d. push_other cells j c d)
      ∙ (ap (λ m. with_at m (Some v) (store_of (map cell_used cells))) (sym k) ∙ ap (λ l. with_at n (Some v) (store_of l)) is))

  -- cells stay free where another is written
  free_set : (cells : List (Cell T S)) (n : ℕ) (c : Cell T S) (ns : List ℕ) → AllByRecursion (λ m. m ≡ n → ⊥) ns → AreFree cells ns →
      AreFree (slice_set cells n c) ns
  free_set cells n c [] d f = tt
  free_set cells n c (m ∷ ms) d f = ((f.0.0, (get_other cells n m c d.0 ∙ f.0.1.0, f.0.1.1)), f.1, free_set cells n c ms d.1 f.2)

  -- one that is in use is none of them
  not_free : (cells : List (Cell T S)) (n : ℕ) (c : Cell T S) (ns : List ℕ) → slice_get cells n ≡ Some c → is_free c.left ≡ false →
      AreFree cells ns → AllByRecursion (λ m. m ≡ n → ⊥) ns
  not_free cells n c [] g u f = tt
  not_free cells n c (m ∷ ms) g u f = (
    λ e. let q : Some c ≡ Some f.0.0 = sym g ∙ (ap (slice_get cells) (sym e) ∙ f.0.1.0) in
        let s : c ≡ f.0.0 = cc in both_ways (is_free c.left) u (ap (λ (y : Cell T S). is_free y.left) s ∙ f.0.1.1.free),
    not_free cells n c ms g u f.2,
  )

  pub listed_set : (cells : List (Cell T S)) (n : ℕ) (c : Cell T S) (o : Option ℕ) → IsUsed cells n → AreListed cells o →
      AreListed (slice_set cells n c) o
  listed_set cells n c o u l = (l.0, (l.1.0, free_set cells n c l.0 (not_free cells n u.cell l.0 u.at u.used l.1.1) l.1.1))

  pub listed_free : (cells : List (Cell T S)) (n : ℕ) (c : Cell T S) (o : Option ℕ) → IsUsed cells n → is_free c.left ≡ true →
      next_in c.left ≡ o → AreListed cells o → AreListed (slice_set cells n c) (Some n)
  listed_free cells n c o u f t l =
      let d = not_free cells n u.cell l.0 u.at u.used l.1.1 in
      (n ∷ l.0, (refl, ((c, (get_same cells n c u.within, record { free = f; tells = t ∙ l.1.0 })), d, free_set cells n c l.0 d l.1.1)))

  -- the first free cell, and those that are left when it is written
  pub record IsFirstFree (cells : List (Cell T S)) (n : ℕ) : Type 0 where
    pub cell : Cell T S
    pub at : slice_get cells n ≡ Some cell
    pub within : n < length cells
    pub none : store_of (map cell_used cells) n ≡ None
    pub rest : (c : Cell T S) → AreListed (slice_set cells n c) (next_in cell.left)

  first_of : (cells : List (Cell T S)) (n : ℕ) (ns : List ℕ) → Some n ≡ first ns → AreFree cells ns → IsFirstFree cells n
  first_of cells n [] e f = absurd (both_ways true (ap is_some e) refl)
  first_of cells n (m ∷ ms) e f =
      let q : Some n ≡ Some m = e in
      let s : n ≡ m = cc in
      let g : slice_get cells n ≡ Some f.0.0 = ap (slice_get cells) s ∙ f.0.1.0 in
      let h : is_free f.0.0.left ≡ true = f.0.1.1.free in
      record {
        cell = f.0.0;
        at = g;
        within = within cells n f.0.0 g;
        none = node_as cells n f.0.0 g ∙ free_node f.0.0 (is_free f.0.0.left) h;
        rest = λ c. (ms, (f.0.1.1.tells, subst (λ i. AreFree (slice_set cells i c) ms) (sym s) (free_set cells m c ms f.1 f.2)));
      }

  pub first_free : (cells : List (Cell T S)) (n : ℕ) (o : Option ℕ) → o ≡ Some n → AreListed cells o → IsFirstFree cells n
  first_free cells n o e l = first_of cells n l.0 (sym e ∙ l.1.0) l.1.1
