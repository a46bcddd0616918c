-- A type as a tree of numbers, by which a proof tells types apart.
use Rattle.std.specs.Prelude.{◌≡◌, ℕ, List, refl}
use Rattle.std.specs.Coded.{Coded, code_by, coded_ℕ, coded_ℤ, coded_list, coded×}
use Rattle.std.proofs.Common.{sym, ap, subst, arith}
use base.Stored.{Gv, gnil, gnum, gcons, num}
use Rattle.yang_types.specs.declared.types.Bounds.{Bounds}
use Rattle.yang_types.specs.declared.types.Target.{Target}
use Rattle.yang_types.specs.declared.types.Builtin.{Builtin}
use Rattle.yang_types.specs.declared.types.Builtin.TheVariants.{Ipv4Address, Ipv6Address, IpAddress, Ipv4Prefix, Ipv6Prefix, IpPrefix, MacAddress}
use Rattle.yang_types.specs.DataType.{DataType, text, number, length_within, value_within, matching, one_of, truth, builtin, leafref, union, DataTypes, no_types, type_and}

abbrev head : Gv → Gv
head gnil = gnil
head (gnum n) = gnil
head (gcons a b) = a

abbrev tail : Gv → Gv
tail gnil = gnil
tail (gnum n) = gnil
tail (gcons a b) = b

-- what stands in the body of a type that has a type within it
abbrev first : Gv → Gv
first g = head (tail g)

abbrev rest : Gv → Gv
rest g = tail (tail g)

abbrev IsCons : Gv → Type 0
IsCons gnil = ⊥
IsCons (gnum n) = ⊥
IsCons (gcons a b) = Unit {0}

abbrev coded_text : Coded (List ℕ)
coded_text = coded_list coded_ℕ

abbrev coded_bounds : Coded Bounds
coded_bounds =
    code_by _ (coded× coded_ℤ coded_ℤ)
    (λ b. (b.low, b.high))
    (λ p. record { low = p.0; high = p.1 })
    (λ _. refl)

abbrev coded_parts : Coded (List Bounds)
coded_parts = coded_list coded_bounds

abbrev coded_target : Coded Target
coded_target =
    code_by (List ℕ × (ℕ × ℕ)) (coded× coded_text (coded× coded_ℕ coded_ℕ))
    (λ r. (r.table, (r.shape, r.part)))
    (λ p. record { table = p.0; shape = p.1.0; part = p.1.1 })
    (λ _. refl)

abbrev builtin_number : Builtin → ℕ
builtin_number Ipv4Address = 0
builtin_number Ipv6Address = 1
builtin_number IpAddress = 2
builtin_number Ipv4Prefix = 3
builtin_number Ipv6Prefix = 4
builtin_number IpPrefix = 5
builtin_number MacAddress = 6

builtin_inj : (a b : Builtin) → builtin_number a ≡ builtin_number b → a ≡ b
builtin_inj Ipv4Address Ipv4Address p = refl
builtin_inj Ipv6Address Ipv6Address p = refl
builtin_inj IpAddress IpAddress p = refl
builtin_inj Ipv4Prefix Ipv4Prefix p = refl
builtin_inj Ipv6Prefix Ipv6Prefix p = refl
builtin_inj IpPrefix IpPrefix p = refl
builtin_inj MacAddress MacAddress p = refl
builtin_inj a b p = absurd (omega arith)

abbrev mutual
  -- a number for each kind, and what it has
  pub code : DataType → Gv
  code text = gcons (gnum 0) gnil
  code (number b) = gcons (gnum 1) (coded_bounds.code b)
  code (length_within t bs) = gcons (gnum 2) (gcons (code t) (coded_parts.code bs))
  code (value_within t bs) = gcons (gnum 3) (gcons (code t) (coded_parts.code bs))
  code (matching t p) = gcons (gnum 4) (gcons (code t) (coded_text.code p))
  code (one_of names) = gcons (gnum 5) ((coded_list coded_text).code names)
  code truth = gcons (gnum 6) gnil
  code (builtin b) = gcons (gnum 7) (gnum (builtin_number b))
  code (leafref r t) = gcons (gnum 8) (gcons (code t) (coded_target.code r))
  code (union ts) = gcons (gnum 9) (types_code ts)

  -- each of several
  pub types_code : DataTypes → Gv
  types_code no_types = gnil
  types_code (type_and t ts) = gcons (code t) (types_code ts)

mutual
  -- types of one code are one
  pub inj : (x y : DataType) → code x ≡ code y → x ≡ y
  inj text text p = refl
  inj (number a) (number b) p = ap number (coded_bounds.inj a b (ap tail p))
  inj (length_within t cs) (length_within u bs) p =
      λ i. length_within (inj t u (ap first p) i) (coded_parts.inj cs bs (ap rest p) i)
  inj (value_within t cs) (value_within u bs) p =
      λ i. value_within (inj t u (ap first p) i) (coded_parts.inj cs bs (ap rest p) i)
  inj (matching t a) (matching u b) p =
      λ i. matching (inj t u (ap first p) i) (coded_text.inj a b (ap rest p) i)
  inj (one_of a) (one_of b) p = ap one_of ((coded_list coded_text).inj a b (ap tail p))
  inj truth truth p = refl
  inj (builtin a) (builtin b) p = ap builtin (builtin_inj a b (ap (λ g. num (tail g)) p))
  inj (leafref a t) (leafref b u) p =
      λ i. leafref (coded_target.inj a b (ap rest p) i) (inj t u (ap first p) i)
  inj (union ts) (union us) p = ap union (types_inj ts us (ap tail p))
  inj x y p = absurd (omega (arith, ap (λ g. num (head g)) p))

  -- and so are lists of them
  pub types_inj : (x y : DataTypes) → types_code x ≡ types_code y → x ≡ y
  types_inj no_types no_types p = refl
  types_inj (type_and t ts) (type_and u us) p =
      λ i. type_and (inj t u (ap head p) i) (types_inj ts us (ap tail p) i)
  types_inj no_types (type_and u us) p = absurd (subst IsCons (sym p) tt)
  types_inj (type_and t ts) no_types p = absurd (subst IsCons p tt)

-- the code that the models name
abbrev pub coded_type : Coded DataType
coded_type = record { code = code; inj = inj }
