-- What `ln` and `sub` append is the Rust's tree, on a list whose older trees stay. Assumes nothing.
use Rattle.std.specs.Prelude.{ℕ, ◌+◌, ◌*◌, ◌≤◌, ◌<◌, ◌≡◌, refl, Bool, true, ◌&&◌, List, ltb, length, get_or, Ok, Err}
use Rattle.std.proofs.Common.{sym, ap, ap₂, ◌∙◌, subst, subst₂, arith, ltb-true, le-leb}
use borrow.Author.Count.{below_more}
use Rattle.std.proofs.lemmas.List.Edits.{sets}
use Rattle.std.proofs.Math.Seq.{length-sets}
use Rattle.record.specs.Refusal.{◌unless◌}
use Rattle.record.specs.RefusalLaws.{both, none_both, none_unless, not_refused}
use Rattle.tree.specs.Tree.{Tree, size, depth, is_small}
use Rattle.tree.specs.Nodes.{is_node, tree_at, node_refusal, nodes_fit, list_refusal, Valid}
use Rattle.record.specs.ByteLaws.{sets_before}
use Rattle.record.specs.Leaving.{◌leaving◌, same_answer, same_places}
use Rattle.tree.specs.Frame.{tree_same, valid_same}
use Rattle.tree.specs.Encoding.{nodes_bytes}
use Rattle.tree.specs.EncodingLaws.{written, Has, one_read, eml_read}
use Rattle.tree.specs.declared.Node.{Node}
use Rattle.tree.specs.NodeLaws.{fit_parts, list_valid, small_parts, tree_one, tree_eml}
use Rattle.tree.specs.Canonical.{ln_tree, sub_tree, ln_nodes, sub_nodes, append_refusal, ln_refusal, sub_refusal, append, ln, sub}

-- ---- what no refusal gives
pub record Accepted (b : List ℕ) (n : ℕ) (t : Tree) (m : ℕ) : Type 0 where
  pub valid : Valid b n
  pub small : is_small t ≡ true
  pub few : n + m ≤ 1024
  pub there : 16 * (n + m) ≤ length b

accepted : (b : List ℕ) (n : ℕ) (ok : Bool) (t : Tree) (m : ℕ) → append_refusal b n ok t m ≡ 0 → (ok ≡ true) × Accepted b n t m
unfolding append_refusal
accepted b n ok t m e =
    let w = none_both (list_refusal b n) _ e in
    let x = none_both (3 unless ok) _ w.1 in
    let y = none_both (4 unless is_small t) _ x.1 in
    let f = fit_parts (length b) (n + m) (none_unless 9 (nodes_fit (length b) (n + m)) y.1) in
    (none_unless 2 ok x.0, record { valid = list_valid b n w.0; small = none_unless 3 (is_small t) y.0; few = f.0; there = f.1 })

pub ln_accepted : (b : List ℕ) (n x : ℕ) → ln_refusal b n x ≡ 0 → (x < n) × Accepted b n (ln_tree (tree_at b x)) 4
unfolding ln_refusal
ln_accepted b n x e = let w = accepted b n (ltb x n) (ln_tree (tree_at b x)) 4 e in (ltb-true x n w.0, w.1)

pub sub_accepted : (b : List ℕ) (n x y : ℕ) → sub_refusal b n x y ≡ 0 → (x < n) × (y < n) × Accepted b n (sub_tree (tree_at b x) (tree_at b y)) 7
unfolding sub_refusal
sub_accepted b n x y e =
    let w = accepted b n (ltb x n && ltb y n) (sub_tree (tree_at b x) (tree_at b y)) 7 e in
    let v = both (ltb x n) (ltb y n) w.0 in
    (ltb-true x n v.0, ltb-true y n v.1, w.1)

-- ---- one more node
small_i : (t : Tree) → size t ≤ 4096 → depth t ≤ 128 → is_small t ≡ true
unfolding is_small
small_i t p q = rw (le-leb (size t) 4096 p, le-leb (depth t) 128 q)

small_children : (l r : Tree) → is_small (Tree.Eml l r) ≡ true → (is_small l ≡ true) × (is_small r ≡ true)
unfolding size depth
small_children l r e = let w = small_parts (Tree.Eml l r) e in (small_i l (omega arith) (omega arith), small_i r (omega arith) (omega arith))

module _ (c : List ℕ) (k n : ℕ) (is : n ≡ k + 1) (v : Valid c k) (few : n ≤ 1024) (there : 16 * n ≤ length c) where
  more : is_node c k ≡ true → is_small (tree_at c k) ≡ true → Valid c n
  unfolding node_refusal
  more e h = record { few = few; there = there; each = λ j l. below_more (λ i. node_refusal c i ≡ 0) k v.each (simp (e, h)) j (omega arith) }

  add_one : Has c k Node.One → Valid c n × (tree_at c k ≡ Tree.One)
  unfolding is_small size depth
  add_one same =
      let w = one_read c k same in
      let t = tree_one c k w.0 in
      (more w.1 (rw t), t)

  add_eml : (l r : ℕ) (t u : Tree) → tree_at c l ≡ t → tree_at c r ≡ u → l < k → r < k → Has c k (Node.Eml l r) → is_small (Tree.Eml t u) ≡ true →
      Valid c n × (tree_at c k ≡ Tree.Eml t u)
  add_eml l r t u tl tr p q same small =
      let w = eml_read c k l r same p q (omega arith) in
      let e = tree_eml c k l r p q w.0 ∙ ap₂ Tree.Eml tl tr in
      (more w.1 (ap is_small e ∙ small), e)

-- the four of ln
module _ (c : List ℕ) (k x : ℕ) (t : Tree) (v : Valid c k) (few : k + 4 ≤ 1024) (there : 16 * (k + 4) ≤ length c)
    (l : x < k) (tx : tree_at c x ≡ t) (small : is_small (ln_tree t) ≡ true)
    (one : Has c k Node.One) (inner : Has c (k + 1) (Node.Eml k x)) (middle : Has c (k + 2) (Node.Eml (k + 1) k))
    (outer : Has c (k + 3) (Node.Eml k (k + 2))) where
  add_ln : Valid c (k + 4) × (tree_at c (k + 3) ≡ ln_tree t)
  add_ln =
      let s = (small_children Tree.One (Tree.Eml (Tree.Eml Tree.One t) Tree.One) small).1 in
      let a = add_one c k (k + 1) refl v (omega arith) (omega arith) one in
      let i = add_eml c (k + 1) (k + 2) (omega arith) a.0 (omega arith) (omega arith) k x Tree.One t a.1 tx (omega arith) (omega arith) inner
      (small_children (Tree.Eml Tree.One t) Tree.One s).0 in
      let m = add_eml c (k + 2) (k + 3) (omega arith) i.0 (omega arith) (omega arith) (k + 1) k (Tree.Eml Tree.One t) Tree.One i.1 a.1
      (omega arith) (omega arith) middle s in
      add_eml c (k + 3) (k + 4) (omega arith) m.0 few there k (k + 2) Tree.One (Tree.Eml (Tree.Eml Tree.One t) Tree.One) a.1 m.1
      (omega arith) (omega arith) outer small

-- ---- the list after m nodes were appended
module _ (b : List ℕ) (n : ℕ) (xs : List (Node ℕ)) (there : 16 * (n + length xs) ≤ length b) where
  abbrev after : List ℕ
  after = sets b (16 * n) (nodes_bytes xs)

  has : (j k : ℕ) → j < length xs → k ≡ n + j → Has after k (get_or xs j Node.One)
  has j k h e o l = ap (λ (i : ℕ). get_or after (16 * i + o) 0) e ∙ written b n xs j o h l there

  stays : (i : ℕ) → i < 16 * n → get_or b i 0 ≡ get_or after i 0
  stays i h = sym (sets_before (nodes_bytes xs) b (16 * n) i h)

  older : (k : ℕ) → k < n → tree_at after k ≡ tree_at b k
  older k h = sym (tree_same b after n stays k h)

  older_valid : Valid b n → Valid after n
  older_valid v = valid_same b after n stays (rw (length-sets b (16 * n) (nodes_bytes xs)) v.there) v

-- ---- what an append means: the tree of the node that it answers, the older trees, and a list that is accepted again
pub record Means (b c : List ℕ) (n last : ℕ) (t : Tree) : Type 0 where
  pub result : tree_at c last ≡ t
  pub older : (k : ℕ) → k < n → tree_at c k ≡ tree_at b k
  pub valid : Valid c (last + 1)

module _ (b : List ℕ) (n x : ℕ) (e : ln_refusal b n x ≡ 0) where
  ln_means : Means b (sets b (16 * n) (nodes_bytes (ln_nodes n x))) n (n + 3) (ln_tree (tree_at b x))
  ln_means =
      let w = ln_accepted b n x e in
      let xs = ln_nodes n x in
      let c = after b n xs w.1.there in
      let has = has b n xs w.1.there in
      let r = add_ln c n x (tree_at b x) (older_valid b n xs w.1.there w.1.valid) w.1.few (rw (length-sets b (16 * n) (nodes_bytes xs)) w.1.there) w.0
      (older b n xs w.1.there x w.0) w.1.small
      (has 0 n (omega arith) (omega arith)) (has 1 (n + 1) (omega arith) refl) (has 2 (n + 2) (omega arith) refl)
      (has 3 (n + 3) (omega arith) refl) in
      record { result = r.1; older = older b n xs w.1.there; valid = subst (Valid c) (omega arith) r.0 }

module _ (b : List ℕ) (n x y : ℕ) (e : sub_refusal b n x y ≡ 0) where
  sub_means : Means b (sets b (16 * n) (nodes_bytes (sub_nodes n x y))) n (n + 6) (sub_tree (tree_at b x) (tree_at b y))
  sub_means =
      let w = sub_accepted b n x y e in
      let a = w.2 in
      let xs = sub_nodes n x y in
      let c = after b n xs a.there in
      let has = has b n xs a.there in
      let old = older b n xs a.there in
      let t = tree_at b x in
      let u = tree_at b y in
      let room : 16 * (n + 7) ≤ length c = rw (length-sets b (16 * n) (nodes_bytes xs)) a.there in
      let s = small_children (ln_tree t) (Tree.Eml u Tree.One) a.small in
      let one = add_one c n (n + 1) refl (older_valid b n xs a.there a.valid) (omega arith) (omega arith) (has 0 n (omega arith) (omega arith)) in
      let ln = add_ln c (n + 1) x t one.0 (omega arith) (omega arith) (omega arith) (old x w.0) s.0
      (has 1 (n + 1) (omega arith) refl) (has 2 (n + 1 + 1) (omega arith) (omega arith)) (has 3 (n + 1 + 2) (omega arith) (omega arith))
      (has 4 (n + 1 + 3) (omega arith) (omega arith)) in
      let at : n + 4 ≡ n + 1 + 3 = omega arith in
      let outer = ap (tree_at c) at ∙ ln.1 in
      let exp = add_eml c (n + 5) (n + 6) (omega arith) (subst (Valid c) (omega arith) ln.0) (omega arith) (omega arith)
      y n u Tree.One (old y w.1) one.1 (omega arith) (omega arith)
      (has 5 (n + 5) (omega arith) refl) s.1 in
      let r = add_eml c (n + 6) (n + 7) (omega arith) exp.0 a.few room (n + 4) (n + 5)
      (ln_tree t) (Tree.Eml u Tree.One) outer exp.1 (omega arith) (omega arith)
      (has 6 (n + 6) (omega arith) refl) a.small in
      record { result = r.1; older = old; valid = subst (Valid c) (omega arith) r.0 }

-- ---- the two calls, by their outcome
pub refused_at : {A : Type 0} {x y : A} {r k : ℕ} → (Err r leaving x) ≡ (Ok k leaving y) → ⊥
refused_at e = let z : ◌≡◌ {A = ℕ} 0 1 = cc (same_answer e) in omega arith

appended : (r : ℕ) (b : List ℕ) (n : ℕ) (xs : List (Node ℕ)) (last k : ℕ) (c : List ℕ) → append r b n xs last ≡ (Ok k leaving c) →
    (r ≡ 0) × (last ≡ k) × (sets b (16 * n) (nodes_bytes xs) ≡ c)
appended r b n xs last k c e = let w = not_refused r _ _ (λ m. refused_at) e in (w.0, cc (same_answer w.1), same_places w.1)

pub ln_appends : (b : List ℕ) (n x k : ℕ) (c : List ℕ) → ln b n x ≡ (Ok k leaving c) → Means b c n k (ln_tree (tree_at b x))
unfolding ln
ln_appends b n x k c e =
    let w = appended (ln_refusal b n x) b n (ln_nodes n x) (n + 3) k c e in
    subst₂ (λ (k : ℕ) (c : List ℕ). Means b c n k (ln_tree (tree_at b x))) w.1 w.2 (ln_means b n x w.0)

pub sub_appends : (b : List ℕ) (n x y k : ℕ) (c : List ℕ) → sub b n x y ≡ (Ok k leaving c) → Means b c n k (sub_tree (tree_at b x) (tree_at b y))
unfolding sub
sub_appends b n x y k c e =
    let w = appended (sub_refusal b n x y) b n (sub_nodes n x y) (n + 6) k c e in
    subst₂ (λ (k : ℕ) (c : List ℕ). Means b c n k (sub_tree (tree_at b x) (tree_at b y))) w.1 w.2 (sub_means b n x y w.0)
