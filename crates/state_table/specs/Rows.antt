-- The sheet (000), section 6.5, tables 6-14 to 6-44: one table of the fields of 0x00-0x26, by which registers are read, written, reset and tested. Where a field stands is said
-- here alone.
use Rattle.std.specs.Prelude.{ℕ, ◌+◌, ◌*◌, ◌/◌, ◌%◌, ◌^◌, Bool, true, false, ◌&&◌, List, [], ◌∷◌, leb}
use Rattle.base.specs.Pick.{pick}
use Rattle.state_parts.specs.declared.profile.Profile.{Profile}
use Rattle.state_table.specs.declared.Access.{Access}
use Rattle.state_table.specs.declared.Access.TheVariants.{Reserved, Fixed, Status, Flag, Stored, Setting, Mask, Counted, Pin, Acts}

-- A field: the address of its register, its lowest bit there, its width, what stands in it, what it starts with, and whether the sheet has 'Reset by: REG_RESET'. What a field
-- that is a setting or a mask starts with, 01 says.
pub record Field : Type 0 where
  pub address : ℕ
  pub low : ℕ
  pub width : ℕ
  pub access : Access
  pub reset : ℕ
  pub restored : Bool

abbrev pub row : ℕ → ℕ → ℕ → Access → ℕ → Bool → Field
row address low width access reset restored =
    record { address = address; low = low; width = width; access = access; reset = reset; restored = restored }

-- Fields that rules read, by their names in the sheet.
abbrev pub fsw : Field
fsw = row 0x16 0 3 Stored 1 true

abbrev pub ts_th1 : Field
ts_th1 = row 0x18 0 2 Stored 1 true

abbrev pub ts_th2 : Field
ts_th2 = row 0x18 2 2 Stored 1 true

abbrev pub ts_th3 : Field
ts_th3 = row 0x18 4 2 Stored 1 true

abbrev pub ts_th5 : Field
ts_th5 = row 0x18 6 2 Stored 2 true

abbrev pub en_ts : Field
en_ts = row 0x19 0 1 Stored 1 true

abbrev pub en_jeita : Field
en_jeita = row 0x19 1 1 Stored 1 true

abbrev pub jeita_isetc : Field
jeita_isetc = row 0x19 2 2 Stored 1 true

abbrev pub jeita_iseth : Field
jeita_iseth = row 0x19 4 1 Stored 1 true

abbrev pub jeita_vset : Field
jeita_vset = row 0x19 5 2 Stored 2 true

-- the two bits that act: a register reset, and a service of the watchdog
abbrev pub reg_rst : Field
reg_rst = row 0x10 7 1 (Acts 0) 0 true

abbrev pub wd_rst : Field
wd_rst = row 0x12 2 1 (Acts 1) 0 true

abbrev pub cell_pin : Field
cell_pin = row 0x1B 0 3 Counted 0 false

abbrev pub vchg_pin : Field
vchg_pin = row 0x1B 3 3 (Pin 0) 0 false

abbrev pub cell_override : Field
cell_override = row 0x1B 6 1 Stored 0 true

abbrev pub vchg_override : Field
vchg_override = row 0x1B 7 1 Stored 0 true

abbrev pub ichg_pin : Field
ichg_pin = row 0x1C 0 3 (Pin 1) 0 false

abbrev pub ichg_override : Field
ichg_override = row 0x1C 3 1 Stored 0 true

-- every field, and the bits that are reserved, from bit 0 of 0x00 up; a sixteen-bit register has the lower of its two addresses
unfoldable pub fields : List Field
fields =
    row 0x00 0 4 Reserved 0 false  -- -
    ∷ row 0x00 4 11 (Setting 6 20) 0 true  -- VSYSMIN
    ∷ row 0x00 15 1 Reserved 0 false  -- -
    ∷ row 0x02 0 4 Reserved 0 false  -- -
    ∷ row 0x02 4 8 (Setting 2 20) 0 true  -- ICHG
    ∷ row 0x02 12 4 Reserved 0 false  -- -
    ∷ row 0x04 0 3 Reserved 0 false  -- -
    ∷ row 0x04 3 12 (Setting 1 10) 0 true  -- VREG
    ∷ row 0x04 15 1 Reserved 0 false  -- -
    ∷ row 0x06 0 4 Reserved 0 false  -- -
    ∷ row 0x06 4 8 (Setting 5 20) 0 true  -- IINDPM
    ∷ row 0x06 12 4 Reserved 0 false  -- -
    ∷ row 0x08 0 4 Reserved 0 false  -- -
    ∷ row 0x08 4 11 Stored 0x91 false  -- VINDPM
    ∷ row 0x08 15 1 Reserved 0 false  -- -
    ∷ row 0x0A 0 4 Reserved 0 false  -- -
    ∷ row 0x0A 4 8 Stored 0xa5 true  -- IIN_REV
    ∷ row 0x0A 12 4 Reserved 0 false  -- -
    ∷ row 0x0C 0 4 Reserved 0 false  -- -
    ∷ row 0x0C 4 11 Stored 0xfa true  -- VIN_REV
    ∷ row 0x0C 15 1 Reserved 0 false  -- -
    ∷ row 0x0E 0 6 (Setting 3 20) 0 true  -- IPRECHG
    ∷ row 0x0E 6 2 Reserved 0 false  -- -
    ∷ row 0x0F 0 6 (Setting 4 20) 0 true  -- ITERM
    ∷ row 0x0F 6 2 Reserved 0 false  -- -
    ∷ row 0x10 0 1 Stored 1 true  -- EN_PRECHG
    ∷ row 0x10 1 2 (Setting 7 1) 0 true  -- VBAT_LOWV
    ∷ row 0x10 3 1 (Setting 10 1) 0 true  -- EN_TERM
    ∷ row 0x10 4 2 (Setting 8 1) 0 true  -- VRECHG
    ∷ row 0x10 6 1 (Setting 13 1) 0 true  -- DIS_STAT
    ∷ reg_rst  -- REG_RST
    ∷ row 0x11 0 1 Stored 1 true  -- EN_TMR2X
    ∷ row 0x11 1 2 Stored 2 true  -- CHG_TMR
    ∷ row 0x11 3 1 Stored 1 true  -- EN_CHG_TMR
    ∷ row 0x11 4 2 Stored 1 true  -- WATCHDOG
    ∷ row 0x11 6 2 Stored 0 true  -- TOPOFF_TMR
    ∷ row 0x12 0 1 Stored 0 true  -- PRECHG_TMR
    ∷ row 0x12 1 1 Stored 0 false  -- STOP_WD_CHG
    ∷ wd_rst  -- WD_RST
    ∷ row 0x12 3 1 Stored 0 true  -- EN_EXT_BYPASS
    ∷ row 0x12 4 1 Stored 0 true  -- EN_BYPASS
    ∷ row 0x12 5 1 Stored 0 true  -- RBAT_SNS
    ∷ row 0x12 6 2 Stored 2 true  -- IBAT_REV
    ∷ row 0x13 0 1 Stored 0 true  -- EN_BACKUP
    ∷ row 0x13 1 1 Stored 0 true  -- EN_REV
    ∷ row 0x13 2 1 Stored 0 true  -- RAC_SNS
    ∷ row 0x13 3 1 Stored 0 true  -- FORCE_VIN_DSCHG
    ∷ row 0x13 4 1 (Setting 11 1) 0 true  -- EN_HIZ
    ∷ row 0x13 5 1 (Setting 9 1) 0 true  -- EN_CHG
    ∷ row 0x13 6 1 Stored 0 true  -- FORCE_ISYS_DSCHG
    ∷ row 0x13 7 1 Stored 1 true  -- EN_AUTO_DSCHG
    ∷ row 0x14 0 1 Stored 0 true  -- EN_ICO
    ∷ row 0x14 1 1 Stored 0 true  -- FORCE_ICO
    ∷ row 0x14 2 1 Stored 0 true  -- FORCE_VINDPM
    ∷ row 0x14 3 1 Stored 1 true  -- EN_BAT_DETECT
    ∷ row 0x14 4 1 Stored 0 true  -- BATFET_CTRL
    ∷ row 0x14 5 1 (Setting 12 1) 0 true  -- EN_EXTILIM
    ∷ row 0x14 6 2 Stored 0 true  -- VIN_BACKUP
    ∷ row 0x15 0 2 Stored 0 true  -- VBAT_DETECT
    ∷ row 0x15 2 1 Reserved 0 false  -- -
    ∷ row 0x15 3 1 Stored 0 true  -- EN_FAST_VOTG_RESPONSE
    ∷ row 0x15 4 4 Reserved 0 false  -- -
    ∷ fsw  -- FSW
    ∷ row 0x16 3 2 Stored 0 true  -- EN_DITHER
    ∷ row 0x16 5 1 Stored 1 true  -- TREG
    ∷ row 0x16 6 1 Stored 1 true  -- EN_PFM_OOA
    ∷ row 0x16 7 1 Stored 1 true  -- EN_PFM
    ∷ row 0x17 0 1 Stored 0 true  -- EN_MPPT
    ∷ row 0x17 1 2 Stored 1 true  -- VOC_RATE
    ∷ row 0x17 3 2 Stored 1 true  -- VOC_DLY
    ∷ row 0x17 5 3 Stored 5 true  -- VOC_PCT
    ∷ ts_th1  -- TS_TH1
    ∷ ts_th2  -- TS_TH2
    ∷ ts_th3  -- TS_TH3
    ∷ ts_th5  -- TS_TH5
    ∷ en_ts  -- EN_TS
    ∷ en_jeita  -- EN_JEITA
    ∷ jeita_isetc  -- JEITA_ISETC
    ∷ jeita_iseth  -- JEITA_ISETH
    ∷ jeita_vset  -- JEITA_VSET
    ∷ row 0x19 7 1 Stored 1 false  -- EN_BYPASS_LL_EXIT
    ∷ row 0x1A 0 4 Stored 0 true  -- CV_TMR
    ∷ row 0x1A 4 1 Reserved 0 false  -- -
    ∷ row 0x1A 5 1 Stored 0 true  -- TS_REV_COLD
    ∷ row 0x1A 6 2 Stored 1 true  -- TS_REV_HOT
    ∷ cell_pin  -- CELL_PIN
    ∷ vchg_pin  -- VCHG_PIN
    ∷ cell_override  -- CELL_PIN_OVERRIDE
    ∷ vchg_override  -- VCHG_PIN_OVERRIDE
    ∷ ichg_pin  -- ICHG_PIN
    ∷ ichg_override  -- ICHG_PIN_OVERRIDE
    ∷ row 0x1C 4 4 Reserved 0 false  -- -
    ∷ row 0x1D 0 3 (Status 0) 0 false  -- CHARGE_STAT
    ∷ row 0x1D 3 1 (Status 1) 0 false  -- WD_STAT
    ∷ row 0x1D 4 1 (Status 2) 0 false  -- TREG_STAT
    ∷ row 0x1D 5 1 (Status 3) 0 false  -- VINDPM_STAT
    ∷ row 0x1D 6 1 (Status 4) 0 false  -- IINDPM_STAT
    ∷ row 0x1D 7 1 (Status 5) 0 false  -- PG_STAT
    ∷ row 0x1E 0 3 (Status 6) 0 false  -- TS_STAT
    ∷ row 0x1E 3 2 (Fixed 0) 0 false  -- REV_STAT
    ∷ row 0x1E 5 2 (Fixed 0) 0 false  -- ICO_STAT
    ∷ row 0x1E 7 1 Reserved 0 false  -- -
    ∷ row 0x1F 0 1 (Fixed 0) 0 false  -- REV_TERM_STAT
    ∷ row 0x1F 1 1 Reserved 0 false  -- -
    ∷ row 0x1F 2 1 (Status 7) 0 false  -- TSHUT_STAT
    ∷ row 0x1F 3 1 (Fixed 0) 0 false  -- CV_TMR_STAT
    ∷ row 0x1F 4 1 (Status 8) 0 false  -- CHG_TMR_STAT
    ∷ row 0x1F 5 2 (Status 9) 0 false  -- BAT_FAULT_STAT
    ∷ row 0x1F 7 1 (Status 10) 0 false  -- VIN_OVP_STAT
    ∷ row 0x20 0 1 (Flag 6 1) 0 false  -- CHARGE_FLAG
    ∷ row 0x20 1 1 (Flag 7 1) 0 false  -- TS_FLAG
    ∷ row 0x20 2 1 (Fixed 0) 0 false  -- ICO_FLAG
    ∷ row 0x20 3 1 (Flag 5 1) 0 false  -- WD_FLAG
    ∷ row 0x20 4 1 (Flag 4 1) 0 false  -- TREG_FLAG
    ∷ row 0x20 5 1 (Flag 3 1) 0 false  -- VINDPM_FLAG
    ∷ row 0x20 6 1 (Flag 2 1) 0 false  -- IINDPM_FLAG
    ∷ row 0x20 7 1 (Flag 0 2) 0 false  -- PG_FLAG
    ∷ row 0x21 0 1 (Fixed 0) 0 false  -- REV_FLAG
    ∷ row 0x21 1 1 Reserved 0 false  -- -
    ∷ row 0x21 2 1 (Fixed 0) 0 false  -- BYPASS_FLAG
    ∷ row 0x21 3 1 (Flag 9 1) 0 false  -- TSHUT_FLAG
    ∷ row 0x21 4 1 (Fixed 0) 0 false  -- CV_TMR_FLAG
    ∷ row 0x21 5 1 (Flag 11 1) 0 false  -- CHG_TMR_FLAG
    ∷ row 0x21 6 1 (Flag 10 1) 0 false  -- BAT_FAULT_FLAG
    ∷ row 0x21 7 1 (Flag 8 1) 0 false  -- VIN_OVP_FLAG
    ∷ row 0x22 0 1 (Mask 6 1) 0 true  -- CHARGE_MASK
    ∷ row 0x22 1 1 (Mask 7 1) 0 true  -- TS_MASK
    ∷ row 0x22 2 1 Stored 0 true  -- ICO_MASK
    ∷ row 0x22 3 1 (Mask 5 1) 0 true  -- WD_MASK
    ∷ row 0x22 4 1 (Mask 4 1) 0 true  -- TREG_MASK
    ∷ row 0x22 5 1 (Mask 3 1) 0 true  -- VINDPM_MASK
    ∷ row 0x22 6 1 (Mask 2 1) 0 true  -- IINDPM_MASK
    ∷ row 0x22 7 1 (Mask 0 2) 0 true  -- PG_MASK
    ∷ row 0x23 0 1 Stored 0 true  -- REV_MASK
    ∷ row 0x23 1 1 Reserved 0 false  -- -
    ∷ row 0x23 2 1 Stored 0 true  -- BYPASS_MASK
    ∷ row 0x23 3 1 (Mask 9 1) 0 true  -- TSHUT_MASK
    ∷ row 0x23 4 1 Stored 0 true  -- CV_TMR_MASK
    ∷ row 0x23 5 1 (Mask 11 1) 0 true  -- CHG_TMR_MASK
    ∷ row 0x23 6 1 (Mask 10 1) 0 true  -- BAT_FAULT_MASK
    ∷ row 0x23 7 1 (Mask 8 1) 0 true  -- VIN_OVP_MASK
    ∷ row 0x24 0 4 Reserved 0 false  -- -
    ∷ row 0x24 4 8 (Fixed 165) 0xa5 false  -- ICO_IINDPM
    ∷ row 0x24 12 4 Reserved 0 false  -- -
    ∷ row 0x26 0 2 (Fixed 1) 1 false  -- DEV_REV
    ∷ row 0x26 2 4 (Fixed 1) 1 false  -- PN
    ∷ row 0x26 6 2 Reserved 0 false  -- -
    ∷ []

-- like every table of the paper it goes by the held profile
unfoldable pub fields_of : Profile → List Field
fields_of p = fields

-- how many addresses the map has: 0x00 to 0x26
abbrev pub map_size : ℕ
map_size = 39

-- the field's lowest bit in the whole map
abbrev pub bit_of : Field → ℕ
bit_of f = f.address * 8 + f.low

-- one step for each of some fields, from the first
abbrev pub over : {A : Type 0} → (Field → Bool) → (A → Field → A) → List Field → A → A
over on step [] a = a
over on step (f ∷ fs) a = over on step fs (pick (on f) (step a f) a)

-- a field's code in the value of its register
abbrev pub digit_of : Field → ℕ → ℕ
digit_of f value = value / 2 ^ f.low % 2 ^ f.width

-- a code at its field's place in its register
abbrev pub shifted : Field → ℕ → ℕ
shifted f code = code % 2 ^ f.width * 2 ^ f.low

-- "other fields are only stored"
abbrev pub is_stored : Access → Bool
is_stored Reserved = false
is_stored (Fixed value) = false
is_stored (Status number) = false
is_stored (Flag first count) = false
is_stored Stored = true
is_stored (Setting number step) = false
is_stored (Mask first count) = false
is_stored Counted = false
is_stored (Pin number) = false
is_stored (Acts number) = false

-- "FSW (0x16 bits 2:0) written 0 or 7" (11): the sheet gives 1 to 6 a frequency
abbrev pub frequency_ok : Profile → ℕ → Bool
frequency_ok p code = leb 1 code && leb code 6
