-- Stated: the logic of three truths, by its tables.
use Rattle.sql_values.specs.declared.logic.Truth.{Truth}
use Rattle.sql_values.specs.declared.logic.Truth.TheVariants.{Yes, No, Unknown}

-- AND: No where one side is No, Yes where both are Yes, and Unknown else
abbrev pub both : Truth → Truth → Truth
both Yes Yes = Yes
both Yes No = No
both Yes Unknown = Unknown
both No Yes = No
both No No = No
both No Unknown = No
both Unknown Yes = Unknown
both Unknown No = No
both Unknown Unknown = Unknown

-- OR: Yes where one side is Yes, No where both are No, and Unknown else
abbrev pub either : Truth → Truth → Truth
either Yes Yes = Yes
either Yes No = Yes
either Yes Unknown = Yes
either No Yes = Yes
either No No = No
either No Unknown = Unknown
either Unknown Yes = Yes
either Unknown No = Unknown
either Unknown Unknown = Unknown

-- NOT: Unknown stays
abbrev pub opposite : Truth → Truth
opposite Yes = No
opposite No = Yes
opposite Unknown = Unknown
